-- `says::start_of` meets its contract. Assumes nothing.
use Rattle.ground.proofs.Tests.{tests}
use Rattle.says.proofs.start_of.Goals as goal

pub returns-then-length-eq0 : goal.returns-then-length-eq0
returns-then-length-eq0 c = search tests

pub returns : goal.returns
returns c = search tests
