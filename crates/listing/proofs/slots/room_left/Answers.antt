-- `listing::slots::room_left` meets its contract. Assumes nothing.
use Rattle.listing.specs.Slots.{room_text}
use Rattle.phrase.proofs.Chained.{filled-four}
use Rattle.listing.proofs.slots.room_left.Goals as goal

pub returns : goal.returns
unfolding room_text
returns c = search filled-four
