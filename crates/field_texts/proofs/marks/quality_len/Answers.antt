-- `field_texts::marks::quality_len` meets its contract. Assumes nothing.
use Rattle.field_texts.proofs.Texts.{quality-one, quality-three}
use native.Mathlib.Omega.{arith}
use Rattle.field_texts.proofs.marks.quality_len.Goals as goal

pub returns-then-method-eq-NO_METHOD : goal.returns-then-method-eq-NO_METHOD
returns-then-method-eq-NO_METHOD c = (search quality-one, omega arith)

pub returns-else-method-eq-NO_METHOD : goal.returns-else-method-eq-NO_METHOD
returns-else-method-eq-NO_METHOD c = (search quality-three, omega arith)
