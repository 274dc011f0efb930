-- `refusals::excerpts::shown` meets its contract. Assumes nothing.
use Rattle.refusals.specs.Excerpts.{shown}
use Rattle.ground.proofs.Tests.{tests}
use Rattle.refusals.proofs.excerpts.shown.Goals as goal

pub returns-in-32-to-126 : goal.returns-in-32-to-126
unfolding shown
returns-in-32-to-126 c = search tests

pub returns-in_default : goal.returns-in_default
unfolding shown
returns-in_default c = search tests

pub returns-in_default-2 : goal.returns-in_default-2
unfolding shown
returns-in_default-2 c = search tests
