-- `tries::one_to` meets its contract. Assumes nothing.
use Rattle.tries.proofs.Holds.{one_ended}
use native.Mathlib.Omega.{arith}
use Rattle.tries.proofs.one_to.Goals as goal

pub bounds-file-a : goal.bounds-file-a
bounds-file-a c = let s = c.ends.ensures c.if-ends.true in omega (arith, s.room)

pub returns-then-file-a : goal.returns-then-file-a
returns-then-file-a c = one_ended _ _ _ _ c.requires.1 c.requires.0 (c.ends.ensures c.if-ends.true) c.if-file-a.true c.requires.2
