-- `units::rows` meets its contract: the code's table is the meaning's, by one computation of the whole. Assumes nothing.
use mathlib.Core.Path.{refl}
use Rattle.format.specs.Units.{units}
use Rattle.units.specs.Table.{row_bytes, bytes_of, table}
use Rattle.units.proofs.rows.Goals as goal

pub returns : goal.returns
unfolding table bytes_of row_bytes units
returns c = refl
