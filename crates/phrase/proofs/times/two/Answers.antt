-- `phrase::times::two` meets its contract. Assumes nothing.
use Rattle.phrase.specs.Phrases.{two_text}
use Rattle.page.proofs.Filling.{filled-then}
use Rattle.phrase.proofs.times.two.Goals as goal

pub returns : goal.returns
unfolding two_text
returns c = search filled-then
