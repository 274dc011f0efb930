-- `sums::add_days` meets its contract. Assumes nothing.
use Prim.Native.Nat.{◌+◌, ◌≤◌, ◌-◌, ◌*◌, ◌^◌}
use Rattle.sums.specs.Sums.{sum_at}
use lib.ListN.{length}
use mathlib.Core.Path.{◌≡◌}
use Rattle.sums.proofs.add_days.Given as goal

abbrev pub invariant-loop-start : goal.invariant-loop-start
invariant-loop-start l = (l.at ≤ length l.file) × (l.acc ≤ l.at * 10 ^ 13) × (l.acc + sum_at l.file l.at l.n ≡ sum_at l.file l.start l.n)

abbrev pub decreases-loop-start : goal.decreases-loop-start
decreases-loop-start l = length l.file - l.at
