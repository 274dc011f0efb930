-- `listing::slots::dated` meets its contract. Assumes nothing.
use Rattle.listing.proofs.Columns.{text-put}
use Rattle.listing.proofs.slots.dated.Goals as goal

pub returns : goal.returns
returns c = search text-put
