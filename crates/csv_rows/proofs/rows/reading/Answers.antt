-- `csv_rows::rows::reading` meets its contract. Assumes nothing.
use Rattle.csv_rows.proofs.Rowed.{reading-put}
use Rattle.csv_rows.proofs.rows.reading.Goals as goal

pub returns : goal.returns
returns c = search reading-put
