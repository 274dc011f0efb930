-- `quality_rules::flags::stands_alone` meets its contract. Assumes nothing.
use Rattle.std.proofs.Common.{arith}
use Rattle.std.proofs.lemmas.Bool.Decides.{nat_tests}
use Rattle.format.specs.Quality.{stands_alone}
use Rattle.quality_rules.proofs.flags.stands_alone.Goals as goal

pub returns-in-65 : goal.returns-in-65
unfolding stands_alone
returns-in-65 c = grind (arith, nat_tests)

pub returns-in-78 : goal.returns-in-78
unfolding stands_alone
returns-in-78 c = grind (arith, nat_tests)

pub returns-in-86 : goal.returns-in-86
unfolding stands_alone
returns-in-86 c = grind (arith, nat_tests)

pub returns-in_default : goal.returns-in_default
unfolding stands_alone
returns-in_default c = grind (arith, nat_tests)
