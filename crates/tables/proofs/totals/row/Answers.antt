-- `tables::totals::row` meets its contract. Assumes nothing.
use Rattle.tables.specs.Totals.{row_text}
use Rattle.phrase.proofs.Chained.{filled_beside}
use Rattle.tables.proofs.totals.row.Goals as goal

pub returns : goal.returns
unfolding row_text
returns c = search filled_beside
