-- `store_calls::changed` meets its contract. Assumes nothing.
use Rattle.store_calls.proofs.Shown.{changed-put}
use Rattle.store_calls.proofs.changed.Goals as goal

pub returns : goal.returns
returns c = search changed-put
