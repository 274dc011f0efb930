-- `store_lines::holds` meets its contract. Assumes nothing.
use Rattle.store_lines.specs.Lines.{holds_text}
use Rattle.page.proofs.Filling.{filled-then}
use Rattle.store_lines.proofs.holds.Goals as goal

pub returns : goal.returns
unfolding holds_text
returns c = search filled-then
