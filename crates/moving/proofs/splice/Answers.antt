-- `moving::splice` meets its contract: the moved tail and the written block are one run of stores (`spliced-so`). Each stretch is inside by the contract. Assumes
-- nothing.
use Rattle.moving.proofs.Splices.{spliced-so}
use Rattle.moving.proofs.splice.Goals as goal

pub returns : goal.returns
returns c = search spliced-so
