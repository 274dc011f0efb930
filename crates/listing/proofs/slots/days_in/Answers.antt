-- `listing::slots::days_in` meets its contract. Assumes nothing.
use Rattle.listing.specs.Slots.{days_text}
use Rattle.page.proofs.Filling.{filled-then}
use Rattle.listing.proofs.slots.days_in.Goals as goal

pub returns : goal.returns
unfolding days_text
returns c = search filled-then
