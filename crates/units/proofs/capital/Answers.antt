-- `units::capital` meets its contract. Assumes nothing.
use Rattle.std.proofs.Common.{arith}
use Rattle.std.proofs.lemmas.Bool.Decides.{nat_tests}
use Rattle.format.specs.Bytes.{capital}
use Rattle.units.proofs.capital.Goals as goal

pub returns : goal.returns
unfolding capital
returns c = grind (arith, nat_tests, c.to_ascii_uppercase.ensures.value)
