-- `refusals::excerpts::shown_from` meets its contract. Assumes nothing.
use Rattle.refusals.specs.Excerpts.{shown_from}
use Rattle.ground.proofs.Tests.{tests}
use Rattle.refusals.proofs.excerpts.shown_from.Goals as goal

pub returns-then-column-lt60 : goal.returns-then-column-lt60
unfolding shown_from
returns-then-column-lt60 c = search tests

pub returns-else-column-lt60 : goal.returns-else-column-lt60
unfolding shown_from
returns-else-column-lt60 c = search tests
