-- `store_lines::key` meets its contract. Assumes nothing.
use Rattle.store_lines.specs.Lines.{key_text}
use Rattle.page.proofs.Filling.{filled-then}
use Rattle.store_lines.proofs.key.Goals as goal

pub returns : goal.returns
unfolding key_text
returns c = search filled-then
