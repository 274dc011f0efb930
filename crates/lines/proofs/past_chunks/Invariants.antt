-- `lines::past_chunks` meets its contract. Assumes nothing.
use Prim.Native.Nat.{◌-◌}
use Rattle.lines.specs.Places.{Unended}
use lib.ListN.{length}
use Rattle.lines.proofs.past_chunks.Given as goal

abbrev pub invariant-loop-i : goal.invariant-loop-i
invariant-loop-i l = Unended l.s l.i

abbrev pub decreases-loop-i : goal.decreases-loop-i
decreases-loop-i l = length l.s - l.i
