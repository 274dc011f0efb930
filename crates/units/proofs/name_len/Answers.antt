-- `units::name_len` meets its contract. Assumes nothing.
use Rattle.units.proofs.Cells.{length_at, length-few}
use Rattle.units.proofs.name_len.Goals as goal

pub returns : goal.returns
returns c = search (length_at, length-few)
