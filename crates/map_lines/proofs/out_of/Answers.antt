-- `map_lines::out_of` meets its contract. Assumes nothing.
use Rattle.map_lines.specs.Lines.{out_of_text}
use Rattle.page.proofs.Filling.{filled-then}
use Rattle.map_lines.proofs.out_of.Goals as goal

pub returns : goal.returns
unfolding out_of_text
returns c = search filled-then
