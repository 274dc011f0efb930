-- `quick_dates::is_hour` meets its contract. Assumes nothing.
use Rattle.std.proofs.Common.{arith}
use Rattle.std.proofs.lemmas.Bool.Decides.{nat_tests}
use Rattle.quick_dates.specs.Shapes.{is_hour}
use Rattle.ground.specs.Digits.{is_digit}
use Rattle.quick_dates.proofs.is_hour.Goals as goal

pub returns-in-48-48-to-57 : goal.returns-in-48-48-to-57
unfolding is_hour is_digit
returns-in-48-48-to-57 c = grind (arith, nat_tests)

pub returns-in-48-48-to-57-2 : goal.returns-in-48-48-to-57-2
unfolding is_hour is_digit
returns-in-48-48-to-57-2 c = grind (arith, nat_tests)

pub returns-in_default : goal.returns-in_default
unfolding is_hour is_digit
returns-in_default c = grind (arith, nat_tests)

pub returns-in_default-2 : goal.returns-in_default-2
unfolding is_hour is_digit
returns-in_default-2 c = grind (arith, nat_tests)

pub returns-in_default-3 : goal.returns-in_default-3
unfolding is_hour is_digit
returns-in_default-3 c = grind (arith, nat_tests)

pub returns-in_default-4 : goal.returns-in_default-4
unfolding is_hour is_digit
returns-in_default-4 c = grind (arith, nat_tests)

pub returns-in_default-5 : goal.returns-in_default-5
unfolding is_hour is_digit
returns-in_default-5 c = grind (arith, nat_tests)

pub returns-in_default-6 : goal.returns-in_default-6
unfolding is_hour is_digit
returns-in_default-6 c = grind (arith, nat_tests)
