-- `csv_rows::rows::note` meets its contract. Assumes nothing.
use Rattle.page.proofs.Filling.{filled-then}
use Rattle.csv_rows.proofs.rows.note.Goals as goal

pub returns : goal.returns
returns c = search filled-then
