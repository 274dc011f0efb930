-- `shares::put_remainders` meets its contract. Assumes nothing.
use Rattle.shares.proofs.Loops.{Resting}
use Rattle.shares.proofs.put_remainders.Given as goal

abbrev pub invariant-loop-i : goal.invariant-loop-i
invariant-loop-i l = Resting l.total l.divisor l.ws l.rs l.left l.i
