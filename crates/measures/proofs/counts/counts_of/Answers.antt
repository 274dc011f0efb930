-- `measures::counts::counts_of` meets its contract. Assumes nothing.
use Rattle.measures.proofs.Gathering.{counts-are}
use Rattle.measures.proofs.counts.counts_of.Goals as goal

pub returns : goal.returns
returns c = search counts-are
