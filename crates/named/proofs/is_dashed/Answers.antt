-- `named::is_dashed` meets its contract. Assumes nothing.
use Rattle.named.specs.Named.{is_dashed}
use Rattle.ground.proofs.Tests.{tests}
use Rattle.named.proofs.is_dashed.Goals as goal

pub returns-then-word-ne10 : goal.returns-then-word-ne10
unfolding is_dashed
returns-then-word-ne10 c = search tests

pub returns-then-word-eq45 : goal.returns-then-word-eq45
unfolding is_dashed
returns-then-word-eq45 c = search tests

pub returns-else-word-eq45 : goal.returns-else-word-eq45
unfolding is_dashed
returns-else-word-eq45 c = search tests
