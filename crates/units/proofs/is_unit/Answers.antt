-- `units::is_unit` meets its contract. Assumes nothing.
use Rattle.format.specs.Units.{units, is_unit}
use borrow.Author.Rules.{rules}
use Rattle.units.proofs.is_unit.Goals as goal

pub returns : goal.returns
unfolding is_unit units
returns c = search rules
