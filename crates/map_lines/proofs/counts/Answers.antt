-- `map_lines::counts` meets its contract. Assumes nothing.
use Rattle.map_lines.specs.Lines.{counts_text}
use Rattle.phrase.proofs.Chained.{filled-four}
use Rattle.map_lines.proofs.counts.Goals as goal

pub returns : goal.returns
unfolding counts_text
returns c = search filled-four
