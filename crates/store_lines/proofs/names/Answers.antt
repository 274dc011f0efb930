-- `store_lines::names` meets its contract. Assumes nothing.
use Rattle.store_lines.specs.Lines.{names_text}
use Rattle.page.proofs.Filling.{filled-then}
use Rattle.store_lines.proofs.names.Goals as goal

pub returns : goal.returns
unfolding names_text
returns c = search filled-then
