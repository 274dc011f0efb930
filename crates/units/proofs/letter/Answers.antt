-- `units::letter` meets its contract. Assumes nothing.
use Rattle.units.proofs.Cells.{name-at}
use Rattle.units.proofs.letter.Goals as goal

pub returns : goal.returns
returns c = search name-at
