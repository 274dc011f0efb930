-- `refusals::places::bracketed_name` meets its contract. Assumes nothing.
use Rattle.refusals.specs.Places.{bracketed}
use Rattle.page.proofs.Filling.{filled-then}
use Rattle.refusals.proofs.places.bracketed_name.Goals as goal

pub returns : goal.returns
unfolding bracketed
returns c = search filled-then
