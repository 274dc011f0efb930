-- `channel_rows::days_from` meets its contract. Assumes nothing.
use Prim.Native.Nat.{◌+◌, ◌-◌, ◌≤◌}
use mathlib.Core.Path.{◌≡◌}
use lib.ListN.{length, drop}
use Rattle.format.specs.Cut.{lines}
use Rattle.channel_rows.specs.Rows.{days_ahead}
use Rattle.channel_rows.proofs.days_from.Given as goal

abbrev pub invariant-loop-start : goal.invariant-loop-start
invariant-loop-start l = (l.at ≤ length l.file) × (l.days ≤ l.at) × (days_ahead (lines (drop l.start l.file)) ≡ l.days + days_ahead (lines (drop l.at l.file)))

abbrev pub decreases-loop-start : goal.decreases-loop-start
decreases-loop-start l = length l.file - l.at
