-- `calls::files::totalled` meets its contract. Assumes nothing.
use Rattle.calls.proofs.Answered.{line-put}
use Rattle.calls.proofs.files.totalled.Goals as goal

pub returns : goal.returns
returns c = search line-put
