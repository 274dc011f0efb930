-- `tries::time_to` meets its contract. Assumes nothing.
use Rattle.tries.proofs.Holds.{time-ended}
use native.Mathlib.Omega.{arith}
use Rattle.tries.proofs.time_to.Goals as goal

pub slice_bounds-is_time-end : goal.slice_bounds-is_time-end
slice_bounds-is_time-end c = let s = c.ends.ensures c.if-ends.true in omega (arith, s.room)

pub returns-then-is_time : goal.returns-then-is_time
returns-then-is_time c = let s = c.ends.ensures c.if-ends.true in search time-ended
