-- `map_lines::tables::version_row` meets its contract. Assumes nothing.
use Rattle.map_lines.specs.Tables.{row_text}
use Rattle.page.proofs.Filling.{filled-then}
use Rattle.map_lines.proofs.tables.version_row.Goals as goal

pub returns : goal.returns
unfolding row_text
returns c = search filled-then
