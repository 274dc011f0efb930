-- `phrase::counts::counted` meets its contract. Assumes nothing.
use Rattle.phrase.proofs.Chained.{filled-four}
use Rattle.phrase.specs.Phrases.{counted_text}
use Rattle.phrase.proofs.counts.counted.Goals as goal

pub returns : goal.returns
unfolding counted_text
returns c = search filled-four
