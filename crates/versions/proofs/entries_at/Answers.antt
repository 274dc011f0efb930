-- `versions::entries_at` meets its contract. Assumes nothing.
use Rattle.versions.proofs.Pieces.{entries-part}
use Rattle.versions.proofs.entries_at.Goals as goal

pub returns : goal.returns
returns c = search entries-part
