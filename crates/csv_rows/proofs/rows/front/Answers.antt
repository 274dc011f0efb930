-- `csv_rows::rows::front` meets its contract. Assumes nothing.
use Rattle.page.proofs.Filling.{filled-then}
use Rattle.csv_rows.specs.Rows.{front_text}
use Rattle.csv_rows.proofs.rows.front.Goals as goal

pub returns : goal.returns
unfolding front_text
returns c = search filled-then
