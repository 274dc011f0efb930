-- `whose::behind_under` meets its contract. Assumes nothing.
use Prim.Native.Nat.{◌-◌, ◌≤◌}
use lib.ListN.{length, drop}
use mathlib.Core.Path.{◌≡◌}
use Rattle.format.specs.Cut.{lines}
use Rattle.whose.specs.Whose.{under_end}
use Rattle.whose.proofs.behind_under.Given as goal

abbrev pub invariant-loop-from : goal.invariant-loop-from
invariant-loop-from l = (l.at ≤ length l.file) × (under_end l.from (lines (drop l.from l.file)) ≡ under_end l.at (lines (drop l.at l.file)))

abbrev pub decreases-loop-from : goal.decreases-loop-from
decreases-loop-from l = length l.file - l.at
