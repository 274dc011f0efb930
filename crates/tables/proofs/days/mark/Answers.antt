-- `tables::days::mark` meets its contract. Assumes nothing.
use Rattle.tables.proofs.Rows.{mark-put}
use Rattle.tables.proofs.days.mark.Goals as goal

pub returns : goal.returns
returns c = search mark-put
