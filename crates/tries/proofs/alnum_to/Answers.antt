-- `tries::alnum_to` meets its contract. Assumes nothing.
use Rattle.tries.proofs.Holds.{alnum-ended}
use native.Mathlib.Omega.{arith}
use Rattle.tries.proofs.alnum_to.Goals as goal

pub overflow_add-z : goal.overflow_add-z
overflow_add-z c = let s = c.ends.ensures c.if-ends.true in omega (arith, s.room)

pub slice_bounds-all_in-end : goal.slice_bounds-all_in-end
slice_bounds-all_in-end c = let s = c.ends.ensures c.if-ends.true in omega (arith, s.room)

pub returns-then-all_in : goal.returns-then-all_in
returns-then-all_in c = let s = c.ends.ensures c.if-ends.true in search alnum-ended
