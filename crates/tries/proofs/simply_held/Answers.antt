-- `tries::simply_held` meets its contract. Assumes nothing.
use Rattle.tries.proofs.Holds.{held_to, held-broken}
use Rattle.tries.proofs.simply_held.Goals as goal

pub returns-then-obeys : goal.returns-then-obeys
returns-then-obeys c = search held_to

pub returns : goal.returns
returns c = search held-broken
