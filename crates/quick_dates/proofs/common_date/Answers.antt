-- `quick_dates::common_date` meets its contract. Assumes nothing.
use Rattle.std.proofs.Common.{arith}
use Rattle.std.proofs.lemmas.Bool.Decides.{nat_tests}
use Rattle.quick_dates.specs.Shapes.{is_common_date}
use Rattle.quick_dates.proofs.common_date.Goals as goal

pub returns-then-f-eq8 : goal.returns-then-f-eq8
unfolding is_common_date
returns-then-f-eq8 c = grind (arith, nat_tests)

pub returns-else-f-eq8 : goal.returns-else-f-eq8
unfolding is_common_date
returns-else-f-eq8 c = grind (arith, nat_tests)
