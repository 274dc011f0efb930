-- `lines::pieces::end_singly` meets its contract. Assumes nothing.
use Rattle.ground.proofs.Lists.{Sought}
use Rattle.lines.proofs.pieces.end_singly.Given as goal

abbrev pub invariant-loop-i : goal.invariant-loop-i
invariant-loop-i l = Sought l.t 44 l.i
