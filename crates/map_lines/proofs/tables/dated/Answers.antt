-- `map_lines::tables::dated` meets its contract. Assumes nothing.
use Rattle.listing.proofs.Columns.{text-put}
use Rattle.map_lines.proofs.tables.dated.Goals as goal

pub returns : goal.returns
returns c = search text-put
