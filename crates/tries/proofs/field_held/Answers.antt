-- `tries::field_held` meets its contract. Assumes nothing.
use Rattle.tries.proofs.Holds.{held-tried}
use Rattle.tries.proofs.field_held.Goals as goal

pub returns-in-Some : goal.returns-in-Some
returns-in-Some c = search held-tried
