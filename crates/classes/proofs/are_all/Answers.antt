-- `classes::are_all` meets its contract. Assumes nothing.
use Rattle.std.proofs.Common.{arith}
use Rattle.std.proofs.lemmas.Bool.Decides.{nat_tests}
use Rattle.format.specs.Bytes.{are_all}
use Rattle.classes.proofs.are_all.Goals as goal

pub returns-then-f-most : goal.returns-then-f-most
unfolding are_all
returns-then-f-most c = grind (arith, nat_tests)

pub returns-else-f-most : goal.returns-else-f-most
unfolding are_all
returns-else-f-most c = grind (arith, nat_tests)
