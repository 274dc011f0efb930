-- `explain::hints::is_value_field` meets its contract. Assumes nothing.
use Rattle.explain.specs.Said.{is_value_field}
use Rattle.ground.proofs.Tests.{tests}
use Rattle.explain.proofs.hints.is_value_field.Goals as goal

pub returns-in-250 : goal.returns-in-250
unfolding is_value_field
returns-in-250 c = search tests

pub returns-in-300 : goal.returns-in-300
unfolding is_value_field
returns-in-300 c = search (tests, c.in-300.is)

pub returns-in_default : goal.returns-in_default
unfolding is_value_field
returns-in_default c = search tests
