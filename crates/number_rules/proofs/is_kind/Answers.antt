-- `number_rules::is_kind` meets its contract. Assumes nothing.
use Rattle.std.proofs.Common.{arith}
use Rattle.std.proofs.lemmas.Bool.Decides.{nat_tests}
use Rattle.format.specs.Records.{is_kind}
use Rattle.number_rules.proofs.is_kind.Goals as goal

pub returns-in-100 : goal.returns-in-100
unfolding is_kind
returns-in-100 c = grind (arith, nat_tests)

pub returns-in_default : goal.returns-in_default
unfolding is_kind
returns-in_default c = grind (arith, nat_tests)
