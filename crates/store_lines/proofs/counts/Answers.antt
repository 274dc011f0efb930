-- `store_lines::counts` meets its contract. Assumes nothing.
use Rattle.store_lines.specs.Lines.{counts_text}
use Rattle.phrase.proofs.Chained.{filled-four}
use Rattle.store_lines.proofs.counts.Goals as goal

pub returns : goal.returns
unfolding counts_text
returns c = search filled-four
