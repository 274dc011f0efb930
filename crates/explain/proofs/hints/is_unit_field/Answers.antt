-- `explain::hints::is_unit_field` meets its contract. Assumes nothing.
use Rattle.explain.specs.Said.{is_unit_field}
use Rattle.ground.proofs.Tests.{tests}
use Rattle.explain.proofs.hints.is_unit_field.Goals as goal

pub returns-in-200 : goal.returns-in-200
unfolding is_unit_field
returns-in-200 c = search tests

pub returns-in-250 : goal.returns-in-250
unfolding is_unit_field
returns-in-250 c = search (tests, c.in-250.is)

pub returns-in_default : goal.returns-in_default
unfolding is_unit_field
returns-in_default c = search tests
