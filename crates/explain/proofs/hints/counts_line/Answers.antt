-- `explain::hints::counts_line` meets its contract. Assumes nothing.
use Rattle.explain.proofs.Saying.{counts-put}
use Rattle.explain.proofs.hints.counts_line.Goals as goal

pub returns : goal.returns
returns c = search counts-put
