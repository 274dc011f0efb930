-- `page::texts::value` meets its contract. Assumes nothing.
use Rattle.page.proofs.Filling.{filled-front, front-within, front_long, value_room}
use Rattle.page.proofs.texts.value.Goals as goal

pub put_value-k-requires : goal.put_value-k-requires
put_value-k-requires c = search value_room

pub slice_bounds-digits-end : goal.slice_bounds-digits-end
slice_bounds-digits-end c = search (front-within, value_room)

pub slice_bounds-put-end : goal.slice_bounds-put-end
slice_bounds-put-end c = search (front_long, value_room)

pub returns : goal.returns
returns c = search (filled-front, value_room)
