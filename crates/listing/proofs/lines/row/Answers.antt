-- `listing::lines::row` meets its contract. Assumes nothing.
use Rattle.listing.proofs.Columns.{row_put}
use Rattle.listing.proofs.lines.row.Goals as goal

pub returns : goal.returns
returns c = search row_put
