-- `ranges::clear` meets its contract: what is left of the lists at j decides what all behind i decide (`Clearing`). Assumes nothing.
use Rattle.ranges.proofs.Checks.{Clearing}
use Rattle.ranges.proofs.clear.Given as goal

abbrev pub invariant-loop-j : goal.invariant-loop-j
invariant-loop-j l = Clearing l.places l.lengths l.o l.n l.i l.j
