-- `quick_values::thousandths` meets its contract. Assumes nothing.
use Rattle.std.proofs.Common.{arith}
use Rattle.std.proofs.lemmas.Bool.Decides.{nat_tests}
use Rattle.quick_values.specs.Shapes.{is_thousandths}
use Rattle.quick_values.proofs.thousandths.Goals as goal

pub returns-then-is_digit-3 : goal.returns-then-is_digit-3
unfolding is_thousandths
returns-then-is_digit-3 c = grind (arith, nat_tests)

pub returns-else-is_digit-3 : goal.returns-else-is_digit-3
unfolding is_thousandths
returns-else-is_digit-3 c = grind (arith, nat_tests)
