-- `quick_dates::common_time` meets its contract. Assumes nothing.
use Rattle.std.proofs.Common.{arith}
use Rattle.std.proofs.lemmas.Bool.Decides.{nat_tests}
use Rattle.quick_dates.specs.Shapes.{is_common_time}
use Rattle.quick_dates.proofs.common_time.Goals as goal

pub returns-then-starts_date : goal.returns-then-starts_date
unfolding is_common_time
returns-then-starts_date c = grind (arith, nat_tests)

pub returns-else-starts_date : goal.returns-else-starts_date
unfolding is_common_time
returns-else-starts_date c = grind (arith, nat_tests)
