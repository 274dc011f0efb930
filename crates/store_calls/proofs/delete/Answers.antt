-- `store_calls::delete` meets its contract. Assumes nothing.
use Rattle.edit_calls.proofs.Answered.{copied-front}
use Rattle.kept_bytes.proofs.Memory.{left_is}
use Rattle.store_calls.proofs.Shown.{changed-as}
use Rattle.store_calls.proofs.delete.Goals as goal

pub returns : goal.returns
returns c = record { line = search (changed-as, copied-front); left = search left_is }
