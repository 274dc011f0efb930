-- `order::State::alike_with` meets its contract. Assumes nothing.
use Rattle.order.proofs.Cases.{alike-first, alike-not, alike-still}
use Rattle.order.proofs.State.alike_with.Goals as goal

pub returns-then-self-eq1 : goal.returns-then-self-eq1
returns-then-self-eq1 c = search (alike-first, alike-not, alike-still)

pub returns-then-not-self : goal.returns-then-not-self
returns-then-not-self c = search (alike-first, alike-not, alike-still)

pub returns : goal.returns
returns c = search (alike-first, alike-not, alike-still)
