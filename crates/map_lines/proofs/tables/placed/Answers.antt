-- `map_lines::tables::placed` meets its contract. Assumes nothing.
use Rattle.map_lines.proofs.Fours.{four-columns}
use Rattle.map_lines.proofs.tables.placed.Goals as goal

pub returns : goal.returns
returns c = search four-columns
