-- `refusals::hints::known_units` meets its contract. Assumes nothing.
use Rattle.page.proofs.Filling.{filled-then}
use Rattle.refusals.specs.Hints.{known_units}
use Rattle.refusals.proofs.hints.known_units.Goals as goal

pub returns : goal.returns
unfolding known_units
returns c = search filled-then
