-- `shorts::behind_three` meets its contract. Assumes nothing.
use Rattle.shorts.proofs.Shorts.{whole-low, whole-complete, whole-point}
use native.Mathlib.Omega.{arith}
use Rattle.shorts.proofs.behind_three.Goals as goal

pub fraction-requires : goal.fraction-requires
fraction-requires c = (whole-point c.requires.0 (omega arith) c.if-file-q-eq46.true, omega arith, omega arith, omega arith)

pub ended-requires : goal.ended-requires
ended-requires c = (whole-complete c.requires.0 (omega arith) (omega arith), whole-low c.requires.0)
