-- `leaf::digits::leading` meets its contract. Assumes nothing.
use Rattle.std.proofs.Common.{arith}
use Rattle.std.proofs.lemmas.Bool.Decides.{nat_tests}
use Rattle.format.specs.Numbers.{leading_zero}
use Rattle.leaf.proofs.digits.leading.Goals as goal

pub returns-then-f-gt1 : goal.returns-then-f-gt1
unfolding leading_zero
returns-then-f-gt1 c = grind (arith, nat_tests)

pub returns-else-f-gt1 : goal.returns-else-f-gt1
unfolding leading_zero
returns-else-f-gt1 c = grind (arith, nat_tests)
