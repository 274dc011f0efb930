-- `lines::chunks` meets its contract. Assumes nothing.
use Prim.Native.Nat.{◌-◌}
use Rattle.lines.specs.Places.{Scanned}
use lib.ListN.{length}
use Rattle.lines.proofs.chunks.Given as goal

abbrev pub invariant-loop-i : goal.invariant-loop-i
invariant-loop-i l = Scanned l.s l.i l.commas

abbrev pub decreases-loop-i : goal.decreases-loop-i
decreases-loop-i l = length l.s - l.i
