-- `quick_dates::is_sixtieth` meets its contract. Assumes nothing.
use Rattle.std.proofs.Common.{arith}
use Rattle.std.proofs.lemmas.Bool.Decides.{nat_tests}
use Rattle.quick_dates.specs.Shapes.{is_sixtieth}
use Rattle.ground.specs.Digits.{is_digit}
use Rattle.quick_dates.proofs.is_sixtieth.Goals as goal

pub returns-in-48-to-53-48-to-57 : goal.returns-in-48-to-53-48-to-57
unfolding is_sixtieth is_digit
returns-in-48-to-53-48-to-57 c = grind (arith, nat_tests)

pub returns-in_default : goal.returns-in_default
unfolding is_sixtieth is_digit
returns-in_default c = grind (arith, nat_tests)

pub returns-in_default-2 : goal.returns-in_default-2
unfolding is_sixtieth is_digit
returns-in_default-2 c = grind (arith, nat_tests)

pub returns-in_default-3 : goal.returns-in_default-3
unfolding is_sixtieth is_digit
returns-in_default-3 c = grind (arith, nat_tests)

pub returns-in_default-4 : goal.returns-in_default-4
unfolding is_sixtieth is_digit
returns-in_default-4 c = grind (arith, nat_tests)
