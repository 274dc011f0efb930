-- `measures::counts::count_of` meets its contract. Assumes nothing.
use Rattle.measures.proofs.Gathering.{count-is}
use Rattle.measures.proofs.counts.count_of.Goals as goal

pub returns : goal.returns
returns c = search count-is
