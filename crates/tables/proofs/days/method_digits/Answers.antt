-- `tables::days::method_digits` meets its contract. Assumes nothing.
use Rattle.tables.specs.Days.{method_text}
use Rattle.ground.proofs.Tests.{tests}
use Rattle.tables.proofs.days.method_digits.Goals as goal

pub returns-then-method-eq-NO_METHOD : goal.returns-then-method-eq-NO_METHOD
unfolding method_text
returns-then-method-eq-NO_METHOD c = search tests

pub returns-else-method-eq-NO_METHOD : goal.returns-else-method-eq-NO_METHOD
unfolding method_text
returns-else-method-eq-NO_METHOD c = search tests
