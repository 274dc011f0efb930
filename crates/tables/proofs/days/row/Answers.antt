-- `tables::days::row` meets its contract. Assumes nothing.
use Rattle.tables.proofs.Rows.{row_put}
use Rattle.tables.proofs.days.row.Goals as goal

pub returns : goal.returns
returns c = search row_put
