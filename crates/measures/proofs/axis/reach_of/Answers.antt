-- `measures::axis::reach_of` meets its contract. Assumes nothing.
use Rattle.measures.specs.Axis.{reach_of}
use Rattle.ground.proofs.Tests.{tests}
use Rattle.measures.proofs.Bounds.{reach-min}
use Rattle.measures.proofs.axis.reach_of.Goals as goal

pub returns-then-most-eq0 : goal.returns-then-most-eq0
unfolding reach_of
returns-then-most-eq0 c = search tests

pub returns-else-most-eq0 : goal.returns-else-most-eq0
returns-else-most-eq0 c = search reach-min
