-- `text_rules::party` meets its contract. Assumes nothing.
use Rattle.std.proofs.Common.{arith}
use Rattle.std.proofs.lemmas.Bool.Decides.{nat_tests}
use Rattle.format.specs.Texts.{is_party}
use Rattle.text_rules.proofs.party.Goals as goal

pub returns-then-text : goal.returns-then-text
unfolding is_party
returns-then-text c = grind (arith, nat_tests)

pub returns-else-text : goal.returns-else-text
unfolding is_party
returns-else-text c = grind (arith, nat_tests)
