-- `field_texts::values::put_value` meets its contract. Assumes nothing.
use Rattle.field_texts.proofs.Texts.{whole_room, put-plain, point-room, fraction-room, put-point}
use Rattle.field_texts.proofs.values.put_value.Goals as goal

pub put_dec-e-requires : goal.put_dec-e-requires
put_dec-e-requires c = search whole_room

pub returns-then-f-eq0 : goal.returns-then-f-eq0
returns-then-f-eq0 c = search put-plain

pub put_byte-d-requires : goal.put_byte-d-requires
put_byte-d-requires c = search point-room

pub put_digits-requires : goal.put_digits-requires
put_digits-requires c = search fraction-room

pub returns-else-f-eq0 : goal.returns-else-f-eq0
returns-else-f-eq0 c = search put-point
