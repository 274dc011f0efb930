-- `cells::quotes::quote` meets its contract. Assumes nothing.
use Rattle.page.proofs.Filling.{filled-then}
use Rattle.cells.specs.Cells.{quoted}
use Rattle.cells.proofs.quotes.quote.Goals as goal

pub returns : goal.returns
unfolding quoted
returns c = search filled-then
