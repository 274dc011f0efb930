-- `refusals::places::whereabouts` meets its contract. Assumes nothing.
use Rattle.refusals.specs.Places.{whereabouts}
use Rattle.page.proofs.Filling.{filled-then}
use Rattle.refusals.proofs.places.whereabouts.Goals as goal

pub returns : goal.returns
unfolding whereabouts
returns c = search filled-then
