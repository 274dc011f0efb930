-- `measures::axis::most_of` meets its contract. Assumes nothing.
use Rattle.measures.proofs.Gathering.{largest-is}
use Rattle.measures.proofs.axis.most_of.Goals as goal

pub returns : goal.returns
returns c = search largest-is
