-- `cells::quotes::double` meets its contract. Assumes nothing.
use Rattle.page.proofs.Listed.{counted_none, counted-more}
use Rattle.cells.proofs.Doubling.{doubled-all}
use Rattle.cells.proofs.quotes.double.Goals as goal

pub loop-b-init : goal.loop-b-init
loop-b-init c = search counted_none

pub loop-b-preserved : goal.loop-b-preserved
loop-b-preserved c = search counted-more

pub returns : goal.returns
returns c = search doubled-all
