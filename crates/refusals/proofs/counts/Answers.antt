-- `refusals::counts` meets its contract. Assumes nothing.
use Rattle.refusals.specs.Places.{counts}
use Rattle.phrase.proofs.Chained.{filled-four}
use Rattle.refusals.proofs.counts.Goals as goal

pub returns : goal.returns
unfolding counts
returns c = search filled-four
