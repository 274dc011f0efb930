-- `split_lines::part_row` meets its contract. Assumes nothing.
use Rattle.phrase.proofs.Chained.{filled_beside}
use Rattle.split_lines.specs.Lines.{part_text}
use Rattle.split_lines.proofs.part_row.Goals as goal

pub returns : goal.returns
unfolding part_text
returns c = search filled_beside
