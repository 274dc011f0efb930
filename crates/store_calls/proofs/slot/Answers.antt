-- `store_calls::slot` meets its contract. Assumes nothing.
use Rattle.store_calls.proofs.Shown.{slot-as}
use Rattle.store_calls.proofs.slot.Goals as goal

pub returns : goal.returns
returns c = search slot-as
