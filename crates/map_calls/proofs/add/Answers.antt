-- `map_calls::add` meets its contract. Assumes nothing.
use Rattle.edit_calls.proofs.Answered.{copied-front}
use Rattle.kept_bytes.proofs.Memory.{left_is}
use Rattle.map_calls.proofs.Answered.{add-as}
use Rattle.map_calls.proofs.add.Goals as goal

pub returns : goal.returns
returns c = record { line = search (add-as, copied-front); left = search left_is }
