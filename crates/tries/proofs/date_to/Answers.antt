-- `tries::date_to` meets its contract. Assumes nothing.
use Rattle.tries.proofs.Holds.{date-ended}
use native.Mathlib.Omega.{arith}
use Rattle.tries.proofs.date_to.Goals as goal

pub slice_bounds-is_date-end : goal.slice_bounds-is_date-end
slice_bounds-is_date-end c = let s = c.ends.ensures c.if-ends.true in omega (arith, s.room)

pub returns-then-is_date : goal.returns-then-is_date
returns-then-is_date c = let s = c.ends.ensures c.if-ends.true in search date-ended
