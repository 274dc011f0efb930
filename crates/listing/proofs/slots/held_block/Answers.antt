-- `listing::slots::held_block` meets its contract. Assumes nothing.
use Rattle.listing.proofs.Columns.{two-columns}
use Rattle.listing.proofs.slots.held_block.Goals as goal

pub returns : goal.returns
returns c = search two-columns
