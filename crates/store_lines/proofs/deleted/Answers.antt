-- `store_lines::deleted` meets its contract. Assumes nothing.
use Rattle.store_lines.specs.Lines.{deleted_text}
use Rattle.page.proofs.Filling.{filled-then}
use Rattle.store_lines.proofs.deleted.Goals as goal

pub returns : goal.returns
unfolding deleted_text
returns c = search filled-then
