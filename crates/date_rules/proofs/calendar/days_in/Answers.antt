-- `date_rules::calendar::days_in` meets its contract. Assumes nothing.
use Rattle.std.proofs.Common.{arith}
use Rattle.std.proofs.lemmas.Bool.Decides.{nat_tests}
use Rattle.format.specs.Dates.{days_in_month}
use Rattle.date_rules.proofs.calendar.days_in.Goals as goal

pub returns-in-2 : goal.returns-in-2
unfolding days_in_month
returns-in-2 c = grind (arith, nat_tests)

pub returns-in-2-2 : goal.returns-in-2-2
unfolding days_in_month
returns-in-2-2 c = grind (arith, nat_tests)

pub returns-in-4 : goal.returns-in-4
unfolding days_in_month
returns-in-4 c = grind (arith, nat_tests)

pub returns-in_default : goal.returns-in_default
unfolding days_in_month
returns-in_default c = grind (arith, nat_tests)
