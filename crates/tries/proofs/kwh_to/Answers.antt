-- `tries::kwh_to` meets its contract. Assumes nothing.
use Rattle.tries.proofs.Holds.{kwh-ended}
use native.Mathlib.Omega.{arith}
use Rattle.tries.proofs.kwh_to.Goals as goal

pub slice_bounds-same_bytes-end : goal.slice_bounds-same_bytes-end
slice_bounds-same_bytes-end c = let s = c.ends.ensures c.if-ends.true in omega (arith, s.room)

pub returns-then-same_bytes : goal.returns-then-same_bytes
returns-then-same_bytes c = let s = c.ends.ensures c.if-ends.true in search kwh-ended
