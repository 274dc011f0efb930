-- `phrase::times::two_behind` meets its contract. Assumes nothing.
use Rattle.phrase.specs.Phrases.{two_behind}
use Rattle.page.proofs.Filling.{filled-sign}
use Rattle.phrase.proofs.times.two_behind.Goals as goal

pub returns : goal.returns
unfolding two_behind
returns c = search filled-sign
