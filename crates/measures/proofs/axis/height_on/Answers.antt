-- `measures::axis::height_on` meets its contract. Assumes nothing.
use Rattle.measures.proofs.Bounds.{on-is}
use Rattle.measures.proofs.axis.height_on.Goals as goal

pub returns : goal.returns
returns c = search on-is
