-- `split_lines::sum_row` meets its contract. Assumes nothing.
use Rattle.listing.proofs.Columns.{three-columns}
use Rattle.split_lines.proofs.sum_row.Goals as goal

pub returns : goal.returns
returns c = search three-columns
