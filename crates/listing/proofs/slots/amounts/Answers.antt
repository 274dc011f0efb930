-- `listing::slots::amounts` meets its contract. Assumes nothing.
use Rattle.listing.proofs.Columns.{three-columns}
use Rattle.listing.proofs.slots.amounts.Goals as goal

pub returns : goal.returns
returns c = search three-columns
