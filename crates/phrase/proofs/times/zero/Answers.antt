-- `phrase::times::zero` meets its contract. Assumes nothing.
use Rattle.phrase.specs.Phrases.{zero_text}
use Rattle.ground.proofs.Tests.{tests}
use Rattle.phrase.proofs.times.zero.Goals as goal

pub returns-then-n-lt10 : goal.returns-then-n-lt10
unfolding zero_text
returns-then-n-lt10 c = search tests

pub returns-else-n-lt10 : goal.returns-else-n-lt10
unfolding zero_text
returns-else-n-lt10 c = search tests
