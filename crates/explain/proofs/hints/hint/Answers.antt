-- `explain::hints::hint` meets its contract. Assumes nothing.
use Rattle.explain.specs.Said.{hint}
use Rattle.ground.proofs.Tests.{tests}
use Rattle.explain.proofs.hints.hint.Goals as goal

pub returns-in-5 : goal.returns-in-5
unfolding hint
returns-in-5 c = search tests

pub returns-in-6 : goal.returns-in-6
unfolding hint
returns-in-6 c = search (tests, c.in-6.is)

pub returns-in_default : goal.returns-in_default
unfolding hint
returns-in_default c = search tests
