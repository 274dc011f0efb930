-- `tries::ends` meets its contract. Assumes nothing.
use Rattle.lines.proofs.Commas.{stops-comma, stops_end}
use borrow.Author.Tests.{eqb-true}
use Rattle.tries.proofs.ends.Goals as goal

pub returns-then-m-e : goal.returns-then-m-e
returns-then-m-e c = λ t. stops-comma _ _ _ _ c.requires.1 c.if-m-e.true (eqb-true _ _ t)

pub returns-else-m-e : goal.returns-else-m-e
returns-else-m-e c = λ t. stops_end _ _ _ _ c.requires.1 (eqb-true _ _ t)
