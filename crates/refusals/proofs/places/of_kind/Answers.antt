-- `refusals::places::of_kind` meets its contract. Assumes nothing.
use Rattle.refusals.specs.Places.{of_kind}
use Rattle.page.proofs.Filling.{filled-then}
use Rattle.ground.proofs.Tests.{tests}
use Rattle.refusals.proofs.places.of_kind.Goals as goal

pub returns-then-kind-eq0 : goal.returns-then-kind-eq0
unfolding of_kind
returns-then-kind-eq0 c = search tests

pub returns : goal.returns
unfolding of_kind
returns c = search (filled-then, tests)
