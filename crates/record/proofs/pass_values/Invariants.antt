-- `record::pass_values` meets its contract: the values before those that are left are passed. Assumes nothing.
use Prim.Native.Nat.{◌+◌, ◌-◌, ◌≤◌}
use Rattle.record.specs.Walk.{Along}
use Rattle.format.specs.Records.{scale}
use Rattle.record.proofs.pass_values.Given as goal

abbrev pub invariant-loop-left : goal.invariant-loop-left
invariant-loop-left l = Along l.file l.at l.e 300 (scale l.n l.d) (l.n + 2 - l.left) l.t × (2 ≤ l.n + 2 - l.left) × (l.b ≤ l.t) × (l.i ≤ l.n + 2 - l.left)

abbrev pub decreases-loop-left : goal.decreases-loop-left
decreases-loop-left l = l.left
