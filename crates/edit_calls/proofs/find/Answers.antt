-- `edit_calls::find` meets its contract. Assumes nothing.
use Rattle.calls.proofs.Answered.{line-put}
use Rattle.edit_calls.proofs.find.Goals as goal

pub returns : goal.returns
returns c = search line-put
