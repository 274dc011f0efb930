-- `store_calls::get_in` meets its contract. Assumes nothing.
use Rattle.calls.proofs.Answered.{day-as}
use Rattle.store_calls.proofs.get_in.Goals as goal

pub returns : goal.returns
returns c = search day-as
