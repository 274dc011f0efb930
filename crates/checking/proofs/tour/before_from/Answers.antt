-- `checking::tour::before_from` meets its contract. Assumes nothing.
use Rattle.ground.proofs.Tests.{tests}
use Rattle.checking.proofs.tour.before_from.Goals as goal

pub returns-then-days-day : goal.returns-then-days-day
returns-then-days-day c = search tests

pub returns : goal.returns
returns c = search tests
