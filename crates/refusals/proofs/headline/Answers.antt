-- `refusals::headline` meets its contract. Assumes nothing.
use Rattle.refusals.specs.Places.{headline}
use Rattle.phrase.proofs.Chained.{filled-four}
use Rattle.refusals.proofs.headline.Goals as goal

pub returns : goal.returns
unfolding headline
returns c = search filled-four
