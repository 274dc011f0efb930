-- `split_cases::total_given` meets its contract. Assumes nothing.
use lib.ListN.{length-take}
use native.Mathlib.Omega.{arith}
use Rattle.split_cases.proofs.total_given.Goals as goal

pub slice_bounds-total-end : goal.slice_bounds-total-end
slice_bounds-total-end c = simp length-take (omega arith)
