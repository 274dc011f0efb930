-- `measures::axis::step_for` meets its contract. Assumes nothing.
use Rattle.measures.proofs.Bounds.{reach-small, step_is}
use Rattle.measures.proofs.axis.step_for.Goals as goal

pub step_from-requires : goal.step_from-requires
step_from-requires c = search reach-small

pub returns : goal.returns
returns c = search step_is
