-- `leaf::bytes::text` meets its contract. Assumes nothing.
use Rattle.std.proofs.Common.{arith}
use Rattle.std.proofs.lemmas.Bool.Decides.{nat_tests}
use Rattle.format.specs.Bytes.{is_text}
use Rattle.leaf.proofs.bytes.text.Goals as goal

pub returns-then-f-most : goal.returns-then-f-most
unfolding is_text
returns-then-f-most c = grind (arith, nat_tests)

pub returns-else-f-most : goal.returns-else-f-most
unfolding is_text
returns-else-f-most c = grind (arith, nat_tests)
