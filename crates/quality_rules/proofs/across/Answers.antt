-- `quality_rules::across` meets its contract. Assumes nothing.
use Rattle.std.proofs.Common.{arith}
use Rattle.std.proofs.lemmas.Bool.Decides.{nat_tests}
use Rattle.format.specs.Quality.{needs_reason, across}
use Rattle.quality_rules.proofs.across.Goals as goal

pub returns-then-reason-eq65535 : goal.returns-then-reason-eq65535
unfolding across needs_reason
returns-then-reason-eq65535 c = grind (arith, nat_tests)

pub returns-else-reason-eq65535 : goal.returns-else-reason-eq65535
unfolding across needs_reason
returns-else-reason-eq65535 c = grind (arith, nat_tests)

pub returns-in-0 : goal.returns-in-0
unfolding across needs_reason
returns-in-0 c = grind (arith, nat_tests)

pub returns-in-65535 : goal.returns-in-65535
unfolding across needs_reason
returns-in-65535 c = grind (arith, nat_tests)

pub returns-in_default : goal.returns-in_default
unfolding across needs_reason
returns-in_default c = grind (arith, nat_tests)
