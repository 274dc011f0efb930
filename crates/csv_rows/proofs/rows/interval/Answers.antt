-- `csv_rows::rows::interval` meets its contract. Assumes nothing.
use Rattle.csv_rows.proofs.Rowed.{interval-put}
use Rattle.csv_rows.proofs.rows.interval.Goals as goal

pub returns : goal.returns
returns c = search interval-put
