-- `map_table::has_four` meets its contract. Assumes nothing.
use Rattle.map_table.proofs.Commas.{four-fields}
use Rattle.map_table.proofs.has_four.Goals as goal

pub returns : goal.returns
returns c = search four-fields
