-- `date_rules::calendar::day_after` meets its contract. Assumes nothing.
use Rattle.std.proofs.Common.{arith}
use Rattle.std.proofs.lemmas.Bool.Decides.{nat_tests}
use Rattle.format.specs.Dates.{day_after}
use Rattle.date_rules.proofs.calendar.day_after.Goals as goal

pub returns-then-t-days_in : goal.returns-then-t-days_in
unfolding day_after
returns-then-t-days_in c = grind (arith, nat_tests)

pub returns-then-m-lt12 : goal.returns-then-m-lt12
unfolding day_after
returns-then-m-lt12 c = grind (arith, nat_tests)

pub returns-else-m-lt12 : goal.returns-else-m-lt12
unfolding day_after
returns-else-m-lt12 c = grind (arith, nat_tests)
