-- `measures::axis::step_from` meets its contract. Assumes nothing.
use Rattle.measures.proofs.Bounds.{Seeking}
use Rattle.measures.proofs.axis.step_from.Given as goal

abbrev pub invariant-loop : goal.invariant-loop
invariant-loop l = Seeking l.reach l.ten l.counter
