-- `measures::axis::step_in` meets its contract. Assumes nothing.
use Rattle.measures.specs.Axis.{step_in}
use Rattle.ground.proofs.Tests.{tests}
use Rattle.measures.proofs.axis.step_in.Goals as goal

pub returns-then-reach-ten : goal.returns-then-reach-ten
unfolding step_in
returns-then-reach-ten c = search tests

pub returns-then-reach-ten-2 : goal.returns-then-reach-ten-2
unfolding step_in
returns-then-reach-ten-2 c = search tests

pub returns-else-reach-ten-2 : goal.returns-else-reach-ten-2
unfolding step_in
returns-else-reach-ten-2 c = search tests
