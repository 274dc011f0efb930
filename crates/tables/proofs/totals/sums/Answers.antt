-- `tables::totals::sums` meets its contract. Assumes nothing.
use Rattle.tables.specs.Totals.{sums_text}
use Rattle.phrase.proofs.Chained.{filled_beside}
use Rattle.tables.proofs.totals.sums.Goals as goal

pub returns : goal.returns
unfolding sums_text
returns c = search filled_beside
