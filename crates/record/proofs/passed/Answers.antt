-- `record::passed` meets its contract. Assumes nothing.
use Rattle.record.proofs.Turns.{goes_none, goes-values}
use Rattle.record.proofs.Turns.{typed-300, along-300}
use native.Mathlib.Omega.{arith}
use Rattle.record.proofs.passed.Goals as goal

pub pass_values-requires : goal.pass_values-requires
pass_values-requires c = (typed-300 _ _ _ _ _ _ 0 0 c.if-kind-eq300.true c.requires.0, along-300 _ _ _ _ _ _ _ _ c.if-kind-eq300.true c.requires.1, omega arith, omega arith)

pub returns-then-i-n : goal.returns-then-i-n
returns-then-i-n c = search goes-values

pub returns-else-kind-eq300 : goal.returns-else-kind-eq300
returns-else-kind-eq300 c = search goes_none
