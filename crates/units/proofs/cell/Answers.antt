-- `units::cell` meets its contract. Assumes nothing.
use Rattle.units.proofs.cell.Goals as goal

pub returns : goal.returns
returns c = rw c.requires.0
