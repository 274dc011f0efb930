-- `phrase::counts::quoted` meets its contract. Assumes nothing.
use Rattle.phrase.specs.Phrases.{quoted_text}
use Rattle.page.proofs.Filling.{filled-then}
use Rattle.phrase.proofs.counts.quoted.Goals as goal

pub returns : goal.returns
unfolding quoted_text
returns c = search filled-then
