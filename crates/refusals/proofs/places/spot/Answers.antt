-- `refusals::places::spot` meets its contract. Assumes nothing.
use Rattle.refusals.specs.Places.{spot}
use Rattle.phrase.proofs.Chained.{filled-four}
use Rattle.refusals.proofs.places.spot.Goals as goal

pub returns : goal.returns
unfolding spot
returns c = search filled-four
