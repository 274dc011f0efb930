-- `versions::first_date` meets its contract. Assumes nothing.
use Rattle.versions.proofs.Pieces.{first-at}
use Rattle.versions.proofs.first_date.Goals as goal

pub returns : goal.returns
returns c = search first-at
