-- `map_lines::tables::channel_row` meets its contract. Assumes nothing.
use Rattle.map_lines.proofs.Fours.{four-columns}
use Rattle.map_lines.proofs.tables.channel_row.Goals as goal

pub returns : goal.returns
returns c = search four-columns
