-- `day::walk::find_day` meets its contract. Assumes nothing.
use Prim.Native.Nat.{◌≤◌, ◌-◌}
use Rattle.day.specs.Places.{Heads, days_at}
use Rattle.format.specs.Day.{days_of}
use lib.ListN.{length, drop}
use mathlib.Core.Path.{◌≡◌}
use Rattle.day.proofs.walk.find_day.Given as goal

abbrev pub invariant-loop-under : goal.invariant-loop-under
invariant-loop-under l = (l.at ≤ length l.file) × Heads l.file l.under × (drop l.day (days_of l.file) ≡ drop l.left (days_at l.file l.at l.under))

abbrev pub decreases-loop-under : goal.decreases-loop-under
decreases-loop-under l = length l.file - l.at
