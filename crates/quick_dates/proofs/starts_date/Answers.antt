-- `quick_dates::starts_date` meets its contract. Assumes nothing.
use Rattle.std.proofs.Common.{arith}
use Rattle.std.proofs.lemmas.Bool.Decides.{nat_tests}
use Rattle.quick_dates.specs.Shapes.{starts_date}
use Rattle.quick_dates.proofs.starts_date.Goals as goal

pub returns-then-is_month : goal.returns-then-is_month
unfolding starts_date
returns-then-is_month c = grind (arith, nat_tests)

pub returns-else-is_month : goal.returns-else-is_month
unfolding starts_date
returns-else-is_month c = grind (arith, nat_tests)
