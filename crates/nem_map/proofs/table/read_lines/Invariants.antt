-- `nem_map::table::read_lines` meets its contract. Assumes nothing.
use Prim.Native.Nat.{◌+◌, ◌-◌, ◌≤◌}
use lib.ListN.{length}
use mathlib.Core.Path.{◌≡◌}
use Rattle.nem_map.proofs.table.read_lines.Given as goal

abbrev pub invariant-loop-at : goal.invariant-loop-at
invariant-loop-at l = (l.at ≤ length l.text + 1) × (l.line ≤ l.at + 1) × (length l.keys ≡ length l.initial.keys) × (length l.shares ≡ length l.initial.shares) × (length l.named ≡ length l.initial.named)

abbrev pub decreases-loop-at : goal.decreases-loop-at
decreases-loop-at l = length l.text + 1 - l.at
