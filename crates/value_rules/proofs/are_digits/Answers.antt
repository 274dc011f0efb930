-- `value_rules::are_digits` meets its contract. Assumes nothing.
use Rattle.std.proofs.Common.{arith}
use Rattle.std.proofs.lemmas.Bool.Decides.{nat_tests}
use Rattle.format.specs.Numbers.{are_digits}
use Rattle.value_rules.proofs.are_digits.Goals as goal

pub returns-then-not-is_empty : goal.returns-then-not-is_empty
unfolding are_digits
returns-then-not-is_empty c = grind (arith, nat_tests)

pub returns-else-not-is_empty : goal.returns-else-not-is_empty
unfolding are_digits
returns-else-not-is_empty c = grind (arith, nat_tests)
