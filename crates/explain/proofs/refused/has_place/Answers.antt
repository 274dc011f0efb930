-- `explain::refused::has_place` meets its contract. Assumes nothing.
use native.Mathlib.Omega.{arith}
use Rattle.explain.specs.Said.{has_place}
use Rattle.ground.proofs.Tests.{tests}
use Rattle.explain.proofs.refused.has_place.Goals as goal

pub returns-in-2-to-13 : goal.returns-in-2-to-13
unfolding has_place
returns-in-2-to-13 c = search (tests, arith)

pub returns-in_default : goal.returns-in_default
unfolding has_place
returns-in_default c = search (tests, arith)

pub returns-in_default-2 : goal.returns-in_default-2
unfolding has_place
returns-in_default-2 c = search (tests, arith)
