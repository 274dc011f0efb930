-- `csv_rows::rows::daily` meets its contract. Assumes nothing.
use Rattle.phrase.proofs.Chained.{filled-four}
use Rattle.csv_rows.specs.Rows.{daily_text}
use Rattle.csv_rows.proofs.rows.daily.Goals as goal

pub returns : goal.returns
unfolding daily_text
returns c = search filled-four
