-- `phrase::counts::plural` meets its contract. Assumes nothing.
use Rattle.phrase.specs.Phrases.{plural_text}
use Rattle.ground.proofs.Tests.{tests}
use Rattle.phrase.proofs.counts.plural.Goals as goal

pub returns-then-n-eq1 : goal.returns-then-n-eq1
unfolding plural_text
returns-then-n-eq1 c = search tests

pub returns-else-n-eq1 : goal.returns-else-n-eq1
unfolding plural_text
returns-else-n-eq1 c = search tests
