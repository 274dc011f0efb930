-- `words::refusals::meaning` meets its contract. Assumes nothing.
use Rattle.words.specs.Meanings.{meaning_of}
use Rattle.page.proofs.Filling.{filled-as}
use Rattle.words.proofs.refusals.meaning.Goals as goal

pub returns : goal.returns
unfolding meaning_of
returns c = search filled-as
