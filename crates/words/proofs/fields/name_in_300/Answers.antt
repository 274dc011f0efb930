-- `words::fields::name_in_300` meets its contract. Assumes nothing.
use Rattle.words.specs.Names.{name_in300}
use Rattle.ground.proofs.Tests.{tests}
use Rattle.words.proofs.fields.name_in_300.Goals as goal

pub returns-then-number-lt3 : goal.returns-then-number-lt3
unfolding name_in300
returns-then-number-lt3 c = search tests

pub returns-then-behind-gt4 : goal.returns-then-behind-gt4
unfolding name_in300
returns-then-behind-gt4 c = search tests

pub returns-else-behind-gt4 : goal.returns-else-behind-gt4
unfolding name_in300
returns-else-behind-gt4 c = search tests
