-- `store_lines::numbered` meets its contract. Assumes nothing.
use Rattle.store_lines.specs.Lines.{number_text}
use Rattle.page.proofs.Filling.{filled-then}
use Rattle.store_lines.proofs.numbered.Goals as goal

pub returns : goal.returns
unfolding number_text
returns c = search filled-then
