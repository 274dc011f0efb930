-- `order::records::whole` meets its contract. Assumes nothing.
use Rattle.ground.proofs.Tests.{tests}
use Rattle.order.proofs.records.whole.Goals as goal

pub returns-then-to-n : goal.returns-then-to-n
returns-then-to-n c = search tests

pub returns : goal.returns
returns c = search tests
