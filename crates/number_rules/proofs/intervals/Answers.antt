-- `number_rules::intervals` meets its contract. Assumes nothing.
use Rattle.std.proofs.Common.{arith}
use Rattle.std.proofs.lemmas.Bool.Decides.{nat_tests}
use Rattle.format.specs.Numbers.{is_length, intervals_of}
use Rattle.number_rules.proofs.intervals.Goals as goal

pub returns-in-5 : goal.returns-in-5
unfolding intervals_of is_length
returns-in-5 c = grind (arith, nat_tests)

pub returns-in-15 : goal.returns-in-15
unfolding intervals_of is_length
returns-in-15 c = grind (arith, nat_tests)

pub returns-in-30 : goal.returns-in-30
unfolding intervals_of is_length
returns-in-30 c = grind (arith, nat_tests)

pub returns-in_default : goal.returns-in_default
unfolding intervals_of is_length
returns-in_default c = grind (arith, nat_tests)
