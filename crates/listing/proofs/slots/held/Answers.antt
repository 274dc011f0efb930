-- `listing::slots::held` meets its contract. Assumes nothing.
use Rattle.listing.specs.Slots.{held_text}
use Rattle.page.proofs.Filling.{filled-then}
use Rattle.listing.proofs.slots.held.Goals as goal

pub returns : goal.returns
unfolding held_text
returns c = search filled-then
