-- `map_lines::wrong` meets its contract. Assumes nothing.
use Rattle.map_lines.specs.Lines.{wrong_text}
use Rattle.page.proofs.Filling.{filled-as}
use Rattle.map_lines.proofs.wrong.Goals as goal

pub returns : goal.returns
unfolding wrong_text
returns c = search filled-as
