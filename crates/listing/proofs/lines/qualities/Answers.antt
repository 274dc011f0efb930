-- `listing::lines::qualities` meets its contract. Assumes nothing.
use Rattle.listing.proofs.Columns.{counts-put}
use Rattle.listing.proofs.lines.qualities.Goals as goal

pub returns : goal.returns
returns c = search counts-put
