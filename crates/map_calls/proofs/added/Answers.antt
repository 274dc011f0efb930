-- `map_calls::added` meets its contract. Assumes nothing.
use Rattle.map_calls.proofs.Answered.{added-put}
use Rattle.map_calls.proofs.added.Goals as goal

pub returns : goal.returns
returns c = search added-put
