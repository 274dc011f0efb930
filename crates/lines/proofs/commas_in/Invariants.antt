-- `lines::commas_in` meets its contract. Assumes nothing.
use Rattle.lines.proofs.Passes.{Counted}
use Rattle.lines.proofs.commas_in.Given as goal

abbrev pub invariant-loop-b : goal.invariant-loop-b
invariant-loop-b l = Counted l.s l.b-index l.n
