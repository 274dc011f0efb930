-- `record::is_quantity` meets its contract. Assumes nothing.
use Rattle.std.proofs.Common.{arith}
use Rattle.std.proofs.lemmas.Bool.Decides.{nat_tests}
use Rattle.record.proofs.is_quantity.Goals as goal

pub returns-then-i-eq18 : goal.returns-then-i-eq18
returns-then-i-eq18 c = grind (arith, nat_tests)

pub returns-else-i-eq18 : goal.returns-else-i-eq18
returns-else-i-eq18 c = grind (arith, nat_tests)
