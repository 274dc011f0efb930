-- `value_rules::index_read` meets its contract. Assumes nothing.
use Rattle.std.proofs.Common.{arith}
use Rattle.std.proofs.lemmas.Bool.Decides.{nat_tests}
use Rattle.format.specs.Numbers.{is_index_read}
use Rattle.value_rules.proofs.index_read.Goals as goal

pub returns-then-is_empty : goal.returns-then-is_empty
unfolding is_index_read
returns-then-is_empty c = grind (arith, nat_tests)

pub returns-else-is_empty : goal.returns-else-is_empty
unfolding is_index_read
returns-else-is_empty c = grind (arith, nat_tests)
