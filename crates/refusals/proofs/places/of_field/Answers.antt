-- `refusals::places::of_field` meets its contract. Assumes nothing.
use Rattle.refusals.specs.Places.{of_field}
use Rattle.page.proofs.Filling.{filled-then}
use Rattle.ground.proofs.Tests.{tests}
use Rattle.refusals.proofs.places.of_field.Goals as goal

pub returns-then-field-eq0 : goal.returns-then-field-eq0
unfolding of_field
returns-then-field-eq0 c = search tests

pub returns : goal.returns
unfolding of_field
returns c = search (filled-then, tests)
