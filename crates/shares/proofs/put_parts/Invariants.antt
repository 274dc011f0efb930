-- `shares::put_parts` meets its contract. Assumes nothing.
use Rattle.shares.proofs.Loops.{Parting}
use Rattle.shares.proofs.put_parts.Given as goal

abbrev pub invariant-loop-i : goal.invariant-loop-i
invariant-loop-i l = Parting l.total l.ws l.initial.parts l.parts l.i
