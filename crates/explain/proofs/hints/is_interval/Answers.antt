-- `explain::hints::is_interval` meets its contract. Assumes nothing.
use native.Mathlib.Omega.{arith}
use Rattle.explain.specs.Said.{is_interval}
use Rattle.ground.proofs.Tests.{tests}
use Rattle.explain.proofs.hints.is_interval.Goals as goal

pub returns-then-number-ge3 : goal.returns-then-number-ge3
unfolding is_interval
returns-then-number-ge3 c = rw (← c.saturating_sub.ensures) (search (tests, arith))

pub returns-else-number-ge3 : goal.returns-else-number-ge3
unfolding is_interval
returns-else-number-ge3 c = search (tests, arith)
