-- `day_rows::interval` meets its contract. Assumes nothing.
use Rattle.day_rows.proofs.Showing.{row_put}
use Rattle.day_rows.proofs.interval.Goals as goal

pub returns : goal.returns
returns c = search row_put
