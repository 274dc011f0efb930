-- `lines::pieces::field_end` meets its contract. Assumes nothing.
use Prim.Native.Nat.{◌+◌, ◌-◌}
use mathlib.Core.Path.{◌≡◌}
use lib.ListN.{length}
use Rattle.ground.proofs.Lists.{Sought}
use Rattle.lines.proofs.pieces.field_end.Given as goal

abbrev pub invariant-loop-e : goal.invariant-loop-e
invariant-loop-e l = Sought l.t 44 l.i × (l.e ≡ l.i + 8)

abbrev pub decreases-loop-e : goal.decreases-loop-e
decreases-loop-e l = length l.t - l.i
