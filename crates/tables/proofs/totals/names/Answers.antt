-- `tables::totals::names` meets its contract. Assumes nothing.
use Rattle.tables.specs.Totals.{names_text}
use Rattle.phrase.proofs.Chained.{filled_beside}
use Rattle.tables.proofs.totals.names.Goals as goal

pub returns : goal.returns
unfolding names_text
returns c = search filled_beside
