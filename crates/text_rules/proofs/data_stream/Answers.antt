-- `text_rules::data_stream` meets its contract. Assumes nothing.
use Rattle.std.proofs.Common.{arith}
use Rattle.std.proofs.lemmas.Bool.Decides.{nat_tests}
use Rattle.format.specs.Texts.{is_stream}
use Rattle.text_rules.proofs.data_stream.Goals as goal

pub returns-then-is_empty : goal.returns-then-is_empty
unfolding is_stream
returns-then-is_empty c = grind (arith, nat_tests)

pub returns-else-is_empty : goal.returns-else-is_empty
unfolding is_stream
returns-else-is_empty c = grind (arith, nat_tests)
