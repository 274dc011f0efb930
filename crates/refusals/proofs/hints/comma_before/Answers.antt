-- `refusals::hints::comma_before` meets its contract. Assumes nothing.
use Rattle.ground.proofs.Tests.{tests}
use Rattle.refusals.specs.Hints.{comma_before}
use Rattle.refusals.proofs.hints.comma_before.Goals as goal

pub returns-then-unit-eq0 : goal.returns-then-unit-eq0
unfolding comma_before
returns-then-unit-eq0 c = search tests

pub returns-else-unit-eq0 : goal.returns-else-unit-eq0
unfolding comma_before
returns-else-unit-eq0 c = search tests
