-- `channel_rows::headed` meets its contract. Assumes nothing.
use Rattle.page.proofs.Filling.{filled-then}
use Rattle.phrase.specs.Phrases.{line_text}
use Rattle.channel_rows.proofs.headed.Goals as goal

pub returns : goal.returns
unfolding line_text
returns c = search filled-then
