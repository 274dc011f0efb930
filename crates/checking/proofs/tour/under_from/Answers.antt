-- `checking::tour::under_from` meets its contract. Assumes nothing.
use Rattle.ground.proofs.Tests.{tests}
use Rattle.checking.proofs.tour.under_from.Goals as goal

pub returns-then-expect-eq2 : goal.returns-then-expect-eq2
returns-then-expect-eq2 c = search tests

pub returns : goal.returns
returns c = search tests
