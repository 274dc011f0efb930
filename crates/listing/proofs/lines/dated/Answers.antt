-- `listing::lines::dated` meets its contract. Assumes nothing.
use Rattle.listing.proofs.Columns.{text-put}
use Rattle.listing.proofs.lines.dated.Goals as goal

pub returns : goal.returns
returns c = search text-put
