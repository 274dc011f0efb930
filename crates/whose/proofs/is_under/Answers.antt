-- `whose::is_under` meets its contract. Assumes nothing.
use Rattle.ground.proofs.Tests.{tests}
use Rattle.whose.proofs.is_under.Goals as goal

pub returns-then-kind-eq400 : goal.returns-then-kind-eq400
returns-then-kind-eq400 c = search tests

pub returns : goal.returns
returns c = search tests
