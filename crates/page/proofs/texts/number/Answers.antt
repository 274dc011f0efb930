-- `page::texts::number` meets its contract. Assumes nothing.
use Rattle.page.proofs.Filling.{filled-front, front-within, front_long, dec-room}
use Rattle.page.proofs.texts.number.Goals as goal

pub put_dec-k-requires : goal.put_dec-k-requires
put_dec-k-requires c = search dec-room

pub slice_bounds-digits-end : goal.slice_bounds-digits-end
slice_bounds-digits-end c = search (front-within, dec-room)

pub slice_bounds-put-end : goal.slice_bounds-put-end
slice_bounds-put-end c = search (front_long, dec-room)

pub returns : goal.returns
returns c = search (filled-front, dec-room)
