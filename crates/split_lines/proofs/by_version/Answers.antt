-- `split_lines::by_version` meets its contract. Assumes nothing.
use Rattle.page.proofs.Filling.{filled-then}
use Rattle.split_lines.specs.Lines.{by_text}
use Rattle.split_lines.proofs.by_version.Goals as goal

pub returns : goal.returns
unfolding by_text
returns c = search filled-then
