-- `listing::lines::numbers` meets its contract. Assumes nothing.
use Rattle.listing.proofs.Columns.{two-columns}
use Rattle.listing.proofs.lines.numbers.Goals as goal

pub returns : goal.returns
returns c = search two-columns
