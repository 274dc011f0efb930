-- `tables::days::end_of` meets its contract. Assumes nothing.
use Rattle.tables.specs.Days.{end_of}
use Rattle.ground.proofs.Tests.{tests}
use Rattle.tables.proofs.days.end_of.Goals as goal

pub returns-then-n-eq0 : goal.returns-then-n-eq0
unfolding end_of
returns-then-n-eq0 c = search tests

pub returns-else-n-eq0 : goal.returns-else-n-eq0
unfolding end_of
returns-else-n-eq0 c = search tests
