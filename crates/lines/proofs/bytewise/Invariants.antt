-- `lines::bytewise` meets its contract. Assumes nothing.
use Rattle.lines.specs.Places.{Scanned}
use Rattle.lines.proofs.bytewise.Given as goal

abbrev pub invariant-loop-stop : goal.invariant-loop-stop
invariant-loop-stop l = Scanned l.s l.stop l.commas
