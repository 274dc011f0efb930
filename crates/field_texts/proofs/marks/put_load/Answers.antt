-- `field_texts::marks::put_load` meets its contract. Assumes nothing.
use Rattle.field_texts.proofs.Texts.{load-room, put-no-load, put-some-load}
use Rattle.field_texts.proofs.marks.put_load.Goals as goal

pub returns-then-time-eq0 : goal.returns-then-time-eq0
returns-then-time-eq0 c = search put-no-load

pub put_digits-requires : goal.put_digits-requires
put_digits-requires c = search load-room

pub returns-else-time-eq0 : goal.returns-else-time-eq0
returns-else-time-eq0 c = search put-some-load
