-- `split_calls::shown` meets its contract. Assumes nothing.
use Rattle.split_calls.proofs.Answered.{shown-put}
use Rattle.split_calls.proofs.shown.Goals as goal

pub returns : goal.returns
returns c = search shown-put
