-- `date_rules::calendar::is_leap` meets its contract. Assumes nothing.
use Rattle.std.proofs.Common.{arith}
use Rattle.std.proofs.lemmas.Bool.Decides.{nat_tests}
use Rattle.format.specs.Dates.{is_leap}
use Rattle.date_rules.proofs.calendar.is_leap.Goals as goal

pub returns-then-y-ne0 : goal.returns-then-y-ne0
unfolding is_leap
returns-then-y-ne0 c = grind (arith, nat_tests)

pub returns-else-y-ne0 : goal.returns-else-y-ne0
unfolding is_leap
returns-else-y-ne0 c = grind (arith, nat_tests)
