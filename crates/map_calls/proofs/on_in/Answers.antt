-- `map_calls::on_in` meets its contract. Assumes nothing.
use Rattle.map_calls.proofs.Answered.{on-as}
use Rattle.map_calls.proofs.on_in.Goals as goal

pub returns : goal.returns
returns c = search on-as
