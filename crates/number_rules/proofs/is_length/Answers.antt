-- `number_rules::is_length` meets its contract. Assumes nothing.
use Rattle.std.proofs.Common.{arith}
use Rattle.std.proofs.lemmas.Bool.Decides.{nat_tests}
use Rattle.format.specs.Numbers.{is_length}
use Rattle.number_rules.proofs.is_length.Goals as goal

pub returns-in-5 : goal.returns-in-5
unfolding is_length
returns-in-5 c = grind (arith, nat_tests)

pub returns-in_default : goal.returns-in_default
unfolding is_length
returns-in_default c = grind (arith, nat_tests)
