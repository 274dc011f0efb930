-- `packing::pack` meets its contract: the blocks before place p are packed (`Packing`), and every fact of a turn comes from one law (`turn`). Assumes nothing.
use Rattle.packing.proofs.Turns.{Packing}
use lib.ListN.{length}
use Prim.Native.Nat.{◌-◌}
use Rattle.packing.proofs.pack.Given as goal

abbrev pub invariant-loop-places : goal.invariant-loop-places
invariant-loop-places l = Packing l.initial.room l.initial.places l.lengths l.room l.places l.p l.q

abbrev pub decreases-loop-places : goal.decreases-loop-places
decreases-loop-places l = length l.initial.room - l.p
