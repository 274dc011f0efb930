-- `store_lines::day` meets its contract. Assumes nothing.
use Rattle.store_lines.specs.Lines.{day_text}
use Rattle.page.proofs.Filling.{filled-then}
use Rattle.store_lines.proofs.day.Goals as goal

pub returns : goal.returns
unfolding day_text
returns c = search filled-then
