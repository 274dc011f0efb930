-- `store_lines::summary` meets its contract. Assumes nothing.
use Rattle.store_lines.specs.Lines.{summary_text}
use Rattle.page.proofs.Filling.{filled-then}
use Rattle.store_lines.proofs.summary.Goals as goal

pub returns : goal.returns
unfolding summary_text
returns c = search filled-then
