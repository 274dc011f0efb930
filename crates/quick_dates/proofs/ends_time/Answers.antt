-- `quick_dates::ends_time` meets its contract. Assumes nothing.
use Rattle.std.proofs.Common.{arith}
use Rattle.std.proofs.lemmas.Bool.Decides.{nat_tests}
use Rattle.quick_dates.specs.Shapes.{ends_time}
use Rattle.quick_dates.proofs.ends_time.Goals as goal

pub returns-then-is_sixtieth : goal.returns-then-is_sixtieth
unfolding ends_time
returns-then-is_sixtieth c = grind (arith, nat_tests)

pub returns-else-is_sixtieth : goal.returns-else-is_sixtieth
unfolding ends_time
returns-else-is_sixtieth c = grind (arith, nat_tests)
