-- `record::noted` meets its contract. Assumes nothing.
use Rattle.ground.proofs.Tests.{tests}
use Rattle.record.proofs.noted.Goals as goal

pub returns-then-i-w : goal.returns-then-i-w
returns-then-i-w c = search tests

pub returns-else-i-w : goal.returns-else-i-w
returns-else-i-w c = search tests
