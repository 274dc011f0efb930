-- `lines::no_cr` meets its contract. Assumes nothing.
use Rattle.ground.specs.Lists.{other}
use Rattle.lines.proofs.Passes.{Held}
use Rattle.lines.proofs.no_cr.Given as goal

abbrev pub invariant-loop-b : goal.invariant-loop-b
invariant-loop-b l = Held (other 13) l.s l.b-index l.ok
