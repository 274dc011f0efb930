-- `map_lines::version` meets its contract. Assumes nothing.
use Rattle.map_lines.specs.Lines.{version_text}
use Rattle.page.proofs.Filling.{filled-then}
use Rattle.map_lines.proofs.version.Goals as goal

pub returns : goal.returns
unfolding version_text
returns c = search filled-then
