-- `field_texts::marks::put_quality` meets its contract. Assumes nothing.
use Rattle.field_texts.proofs.Texts.{quality-room, method-room, put_alone, put-graded}
use Rattle.field_texts.proofs.marks.put_quality.Goals as goal

pub put_byte-b-requires : goal.put_byte-b-requires
put_byte-b-requires c = search quality-room

pub returns-then-method-eq-NO_METHOD : goal.returns-then-method-eq-NO_METHOD
returns-then-method-eq-NO_METHOD c = search put_alone

pub put_digits-requires : goal.put_digits-requires
put_digits-requires c = search method-room

pub returns-else-method-eq-NO_METHOD : goal.returns-else-method-eq-NO_METHOD
returns-else-method-eq-NO_METHOD c = let p = rw c.from.ensures at c.put_digits.ensures in search put-graded
