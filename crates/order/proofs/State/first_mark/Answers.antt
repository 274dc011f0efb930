-- `order::State::first_mark` meets its contract. Assumes nothing.
use Rattle.ground.proofs.Tests.{tests}
use Rattle.order.proofs.State.first_mark.Goals as goal

pub returns-then-self-eq1 : goal.returns-then-self-eq1
returns-then-self-eq1 c = search tests

pub returns : goal.returns
returns c = search tests
