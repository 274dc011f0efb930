-- `covers::run_len` meets its contract. Assumes nothing.
use Rattle.covers.proofs.Covers.{run_length}
use native.Mathlib.Omega.{arith}
use Rattle.covers.proofs.run_len.Goals as goal

pub returns : goal.returns
returns c = (search run_length, omega arith)
