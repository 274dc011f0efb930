-- `quality_rules::flags::needs_reason` meets its contract. Assumes nothing.
use Rattle.std.proofs.Common.{arith}
use Rattle.std.proofs.lemmas.Bool.Decides.{nat_tests}
use Rattle.format.specs.Quality.{needs_reason}
use Rattle.quality_rules.proofs.flags.needs_reason.Goals as goal

pub returns-in-83 : goal.returns-in-83
unfolding needs_reason
returns-in-83 c = grind (arith, nat_tests)

pub returns-in_default : goal.returns-in_default
unfolding needs_reason
returns-in_default c = grind (arith, nat_tests)
