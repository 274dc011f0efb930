-- `listing::lines::names` meets its contract. Assumes nothing.
use Rattle.listing.proofs.Columns.{three-columns}
use Rattle.listing.proofs.lines.names.Goals as goal

pub returns : goal.returns
returns c = search three-columns
