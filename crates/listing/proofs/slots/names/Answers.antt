-- `listing::slots::names` meets its contract. Assumes nothing.
use Rattle.listing.proofs.Columns.{three-columns}
use Rattle.listing.proofs.slots.names.Goals as goal

pub returns : goal.returns
returns c = search three-columns
