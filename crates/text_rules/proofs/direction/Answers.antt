-- `text_rules::direction` meets its contract. Assumes nothing.
use Rattle.std.proofs.Common.{arith}
use Rattle.std.proofs.lemmas.Bool.Decides.{nat_tests}
use Rattle.format.specs.Texts.{is_direction}
use Rattle.text_rules.proofs.direction.Goals as goal

pub returns-then-same_bytes : goal.returns-then-same_bytes
unfolding is_direction
returns-then-same_bytes c = grind (arith, nat_tests)

pub returns-else-same_bytes : goal.returns-else-same_bytes
unfolding is_direction
returns-else-same_bytes c = grind (arith, nat_tests)
