-- `date_rules::calendar::is_time` meets its contract. Assumes nothing.
use Rattle.std.proofs.Common.{arith}
use Rattle.std.proofs.lemmas.Bool.Decides.{nat_tests}
use Rattle.format.specs.Dates.{is_time}
use Rattle.date_rules.proofs.calendar.is_time.Goals as goal

pub returns-then-t-lt60-2 : goal.returns-then-t-lt60-2
unfolding is_time
returns-then-t-lt60-2 c = grind (arith, nat_tests)

pub returns-else-t-lt60-2 : goal.returns-else-t-lt60-2
unfolding is_time
returns-else-t-lt60-2 c = grind (arith, nat_tests)
