-- `csv_rows::rows::times` meets its contract. Assumes nothing.
use Rattle.csv_rows.proofs.Rowed.{times-put}
use Rattle.csv_rows.proofs.rows.times.Goals as goal

pub returns : goal.returns
returns c = search times-put
