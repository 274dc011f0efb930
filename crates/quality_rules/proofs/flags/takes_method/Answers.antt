-- `quality_rules::flags::takes_method` meets its contract. Assumes nothing.
use Rattle.std.proofs.Common.{arith}
use Rattle.std.proofs.lemmas.Bool.Decides.{nat_tests}
use Rattle.format.specs.Quality.{takes_method}
use Rattle.quality_rules.proofs.flags.takes_method.Goals as goal

pub returns-in_default : goal.returns-in_default
unfolding takes_method
returns-in_default c = grind (arith, nat_tests)

pub returns-in_default-2 : goal.returns-in_default-2
unfolding takes_method
returns-in_default-2 c = grind (arith, nat_tests)

pub returns-in-69 : goal.returns-in-69
unfolding takes_method
returns-in-69 c = grind (arith, nat_tests)

pub returns-in-69-2 : goal.returns-in-69-2
unfolding takes_method
returns-in-69-2 c = grind (arith, nat_tests)
