-- `eights::lowest_mark` meets its contract. Assumes nothing.
use Rattle.eights.proofs.Words.{lowest-le, lowest-fits}
use Rattle.eights.proofs.lowest_mark.Goals as goal

pub overflow_cast-result : goal.overflow_cast-result
overflow_cast-result c = search (lowest-le, lowest-fits)

pub returns : goal.returns
returns c = search (lowest-le, lowest-fits)
