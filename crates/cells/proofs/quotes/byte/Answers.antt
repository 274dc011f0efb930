-- `cells::quotes::byte` meets its contract. Assumes nothing.
use Rattle.ground.proofs.Tests.{tests}
use Rattle.page.proofs.Filling.{filled-sign}
use Rattle.cells.specs.Cells.{twice}
use Rattle.cells.proofs.quotes.byte.Goals as goal

pub returns-then-b-eq-QUOTE : goal.returns-then-b-eq-QUOTE
unfolding twice
returns-then-b-eq-QUOTE c = search (tests, filled-sign)

pub returns-else-b-eq-QUOTE : goal.returns-else-b-eq-QUOTE
unfolding twice
returns-else-b-eq-QUOTE c = search tests
