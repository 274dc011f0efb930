-- `date_rules::calendar::is_date` meets its contract. Assumes nothing.
use Rattle.std.proofs.Common.{arith}
use Rattle.std.proofs.lemmas.Bool.Decides.{nat_tests}
use Rattle.format.specs.Dates.{is_day, is_date}
use Rattle.date_rules.proofs.calendar.is_date.Goals as goal

pub returns-then-d-ge1 : goal.returns-then-d-ge1
unfolding is_date is_day
returns-then-d-ge1 c = grind (arith, nat_tests)

pub returns-else-d-ge1 : goal.returns-else-d-ge1
unfolding is_date is_day
returns-else-d-ge1 c = grind (arith, nat_tests)
