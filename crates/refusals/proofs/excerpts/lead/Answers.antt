-- `refusals::excerpts::lead` meets its contract. Assumes nothing.
use Rattle.refusals.specs.Excerpts.{lead}
use Rattle.ground.proofs.Tests.{tests}
use Rattle.refusals.proofs.excerpts.lead.Goals as goal

pub returns-then-from-gt0 : goal.returns-then-from-gt0
unfolding lead
returns-then-from-gt0 c = search tests

pub returns-else-from-gt0 : goal.returns-else-from-gt0
unfolding lead
returns-else-from-gt0 c = search tests
