-- `listing::slots::row` meets its contract. Assumes nothing.
use Rattle.listing.proofs.Columns.{slot-put}
use Rattle.listing.proofs.slots.row.Goals as goal

pub returns : goal.returns
returns c = search slot-put
