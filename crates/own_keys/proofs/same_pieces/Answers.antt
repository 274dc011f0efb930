-- `own_keys::same_pieces` meets its contract. Assumes nothing.
use Rattle.own_keys.proofs.Others.{pieces-same}
use Rattle.own_keys.proofs.same_pieces.Goals as goal

pub returns : goal.returns
returns c = search pieces-same
