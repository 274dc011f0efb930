-- `edit_calls::is_kept` meets its contract. Assumes nothing.
use Rattle.edit_calls.proofs.Answered.{kept_from_lem}
use Rattle.edit_calls.proofs.is_kept.Goals as goal

pub returns : goal.returns
returns c = search kept_from_lem
