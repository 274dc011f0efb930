-- `text::digits::digits_len` meets its contract. Assumes nothing.
use Rattle.ground.proofs.Digits.{width_small}
use Rattle.text.proofs.Loops.{width-of}
use native.Mathlib.Omega.{arith}
use Rattle.text.proofs.digits.digits_len.Goals as goal

pub returns-then-n-eq0 : goal.returns-then-n-eq0
returns-then-n-eq0 c = (omega (arith, width_small c.args.n (omega arith)), omega arith)

pub returns-else-n-eq0 : goal.returns-else-n-eq0
returns-else-n-eq0 c = let w = width-of c.args.n c.ilog10.result (omega arith) (omega arith) (omega arith) in (omega arith, omega arith)
