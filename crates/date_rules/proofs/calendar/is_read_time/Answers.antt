-- `date_rules::calendar::is_read_time` meets its contract. Assumes nothing.
use Rattle.std.proofs.Common.{arith}
use Rattle.std.proofs.lemmas.Bool.Decides.{nat_tests}
use Rattle.format.specs.Dates.{is_read_time}
use Rattle.date_rules.proofs.calendar.is_read_time.Goals as goal

pub returns-then-is_time : goal.returns-then-is_time
unfolding is_read_time
returns-then-is_time c = grind (arith, nat_tests)

pub returns-else-is_time : goal.returns-else-is_time
unfolding is_read_time
returns-else-is_time c = grind (arith, nat_tests)
