-- `explain::hints::unit_for` meets its contract. Assumes nothing.
use Rattle.explain.proofs.Saying.{unit-own, unit-channel}
use Rattle.explain.proofs.hints.unit_for.Goals as goal

pub returns-then-r-eq250 : goal.returns-then-r-eq250
returns-then-r-eq250 c = search unit-own

pub returns-else-r-eq250 : goal.returns-else-r-eq250
returns-else-r-eq250 c = search unit-channel
