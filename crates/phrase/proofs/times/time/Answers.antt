-- `phrase::times::time` meets its contract. Assumes nothing.
use Rattle.phrase.specs.Phrases.{time_text}
use Rattle.phrase.proofs.Chained.{filled-four}
use Rattle.phrase.proofs.times.time.Goals as goal

pub returns : goal.returns
unfolding time_text
returns c = search filled-four
