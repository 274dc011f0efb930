-- `refusals::excerpts::shown_to` meets its contract. Assumes nothing.
use native.Mathlib.Omega.{arith}
use Rattle.refusals.specs.Excerpts.{shown_to}
use Rattle.ground.proofs.Tests.{tests}
use Rattle.refusals.proofs.excerpts.shown_to.Goals as goal

pub returns-then-saturating_sub-le77 : goal.returns-then-saturating_sub-le77
unfolding shown_to
returns-then-saturating_sub-le77 c = search (tests, arith)

pub returns-else-saturating_sub-le77 : goal.returns-else-saturating_sub-le77
unfolding shown_to
returns-else-saturating_sub-le77 c = search (tests, arith)
