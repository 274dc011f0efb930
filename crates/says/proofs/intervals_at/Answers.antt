-- `says::intervals_at` meets its contract. Assumes nothing.
use Rattle.says.proofs.Fields.{intervals-say}
use Rattle.says.proofs.intervals_at.Goals as goal

pub returns : goal.returns
returns c = search intervals-say
