-- `map_calls::make` meets its contract. Assumes nothing.
use Rattle.edit_calls.proofs.Answered.{copied-front}
use Rattle.kept_bytes.proofs.Memory.{left_is}
use Rattle.map_calls.proofs.Answered.{make-as}
use Rattle.map_calls.proofs.make.Goals as goal

pub returns : goal.returns
returns c = record { line = search (make-as, copied-front); left = search left_is }
