-- `packing::next_block` meets its contract: of the first i ranges the one found is the one sought (`Seeking`). Assumes nothing.
use Rattle.packing.proofs.Seeks.{Seeking}
use Rattle.packing.proofs.next_block.Given as goal

abbrev pub invariant-loop-i : goal.invariant-loop-i
invariant-loop-i l = Seeking l.places l.lengths l.p l.best l.least l.i
