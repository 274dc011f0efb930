-- `refusals::hints::listed` meets its contract. Assumes nothing.
use Rattle.page.proofs.Filling.{filled-then}
use Rattle.refusals.specs.Hints.{listed}
use Rattle.refusals.proofs.hints.listed.Goals as goal

pub returns : goal.returns
unfolding listed
returns c = search filled-then
