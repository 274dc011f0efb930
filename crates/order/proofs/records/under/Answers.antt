-- `order::records::under` meets its contract. Assumes nothing.
use Rattle.ground.proofs.Tests.{tests}
use Rattle.order.proofs.records.under.Goals as goal

pub returns-then-flag-eq86 : goal.returns-then-flag-eq86
returns-then-flag-eq86 c = search tests

pub returns : goal.returns
returns c = search tests
