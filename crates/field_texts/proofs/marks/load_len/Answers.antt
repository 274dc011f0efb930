-- `field_texts::marks::load_len` meets its contract. Assumes nothing.
use Rattle.field_texts.proofs.Texts.{load-zero, load_full}
use native.Mathlib.Omega.{arith}
use Rattle.field_texts.proofs.marks.load_len.Goals as goal

pub returns-then-time-eq0 : goal.returns-then-time-eq0
returns-then-time-eq0 c = (search load-zero, omega arith)

pub returns-else-time-eq0 : goal.returns-else-time-eq0
returns-else-time-eq0 c = (search load_full, omega arith)
