-- `map_lines::added` meets its contract. Assumes nothing.
use Rattle.map_lines.specs.Lines.{added_text}
use Rattle.phrase.proofs.Chained.{filled-four}
use Rattle.map_lines.proofs.added.Goals as goal

pub returns : goal.returns
unfolding added_text
returns c = search filled-four
