-- `tries::value_ended` meets its contract. Assumes nothing.
use Rattle.format.specs.Records.{obeys}
use Rattle.tries.proofs.Holds.{held_to, held-broken}
use Rattle.tries.proofs.value_ended.Goals as goal

pub returns-then-is_value : goal.returns-then-is_value
unfolding obeys
returns-then-is_value c = search (held_to, held-broken)

pub returns : goal.returns
unfolding obeys
returns c = search (held_to, held-broken)
