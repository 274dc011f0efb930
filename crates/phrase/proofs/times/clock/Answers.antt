-- `phrase::times::clock` meets its contract. Assumes nothing.
use Rattle.phrase.specs.Phrases.{clock_text}
use Rattle.page.proofs.Filling.{filled-then}
use Rattle.phrase.proofs.times.clock.Goals as goal

pub returns : goal.returns
unfolding clock_text
returns c = search filled-then
