-- `record::check_fields` meets its contract. Assumes nothing.
use Prim.Native.Nat.{◌-◌, ◌≤◌}
use Rattle.format.specs.Cut.{fields}
use Rattle.ground.specs.Lists.{part}
use Rattle.record.proofs.Turns.{Noted}
use Rattle.record.specs.Walk.{first_asked, second_asked, scale_at, Along}
use mathlib.Core.Path.{◌≡◌}
use Rattle.record.proofs.check_fields.Given as goal

abbrev pub invariant-loop-b : goal.invariant-loop-b
invariant-loop-b l = (l.v ≡ first_asked l.kind (scale_at l.file l.at l.e l.kind l.n l.d).n) × (l.w ≡ second_asked l.kind) × Along l.file l.at l.e l.kind (scale_at l.file l.at l.e l.kind l.n l.d) l.i l.b × Noted (fields (part l.file l.at l.e)) l.at l.i l.v l.p × Noted (fields (part l.file l.at l.e)) l.at l.i l.w l.q × (1 ≤ l.i)

abbrev pub decreases-loop-b : goal.decreases-loop-b
decreases-loop-b l = l.e - l.b
