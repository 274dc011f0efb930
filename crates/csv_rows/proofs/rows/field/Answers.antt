-- `csv_rows::rows::field` meets its contract. Assumes nothing.
use Rattle.page.proofs.Filling.{filled-then}
use Rattle.cells.specs.Cells.{field_text}
use Rattle.csv_rows.proofs.rows.field.Goals as goal

pub returns : goal.returns
unfolding field_text
returns c = search filled-then
