-- `csv_rows::rows::ending` meets its contract. Assumes nothing.
use Rattle.page.proofs.Filling.{filled-then}
use Rattle.csv_rows.proofs.rows.ending.Goals as goal

pub returns : goal.returns
returns c = search filled-then
