-- `phrase::times::date` meets its contract. Assumes nothing.
use Rattle.phrase.specs.Phrases.{date_text}
use Rattle.page.proofs.Filling.{filled-then}
use Rattle.phrase.proofs.times.date.Goals as goal

pub returns : goal.returns
unfolding date_text
returns c = search filled-then
