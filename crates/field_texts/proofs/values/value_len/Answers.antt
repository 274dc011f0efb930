-- `field_texts::values::value_len` meets its contract. Assumes nothing.
use Rattle.field_texts.proofs.Texts.{value-plain, value-point}
use native.Mathlib.Omega.{arith}
use Rattle.field_texts.proofs.values.value_len.Goals as goal

pub returns-then-f-eq0 : goal.returns-then-f-eq0
returns-then-f-eq0 c = (search value-plain, omega arith)

pub returns-else-f-eq0 : goal.returns-else-f-eq0
returns-else-f-eq0 c = (search value-point, omega arith)
