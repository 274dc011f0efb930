-- `phrase::columns::cell` meets its contract. Assumes nothing.
use Rattle.phrase.specs.Phrases.{cell_text}
use Rattle.page.proofs.Filling.{filled-then}
use Rattle.phrase.proofs.columns.cell.Goals as goal

pub returns : goal.returns
unfolding cell_text
returns c = search filled-then
