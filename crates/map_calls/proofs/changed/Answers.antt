-- `map_calls::changed` meets its contract. Assumes nothing.
use Rattle.map_calls.proofs.Answered.{changed-put}
use Rattle.map_calls.proofs.changed.Goals as goal

pub returns : goal.returns
returns c = search changed-put
