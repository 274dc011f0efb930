-- `tries::quantity_held` meets its contract. Assumes nothing.
use Rattle.tries.proofs.Holds.{quantity-short, quantity-to, quantity-broken}
use Rattle.tries.proofs.quantity_held.Goals as goal

pub returns-then-is_value : goal.returns-then-is_value
returns-then-is_value c = search (quantity-short, quantity-to, quantity-broken)

pub returns-then-is_value-2 : goal.returns-then-is_value-2
returns-then-is_value-2 c = search (quantity-short, quantity-to, quantity-broken)

pub returns : goal.returns
returns c = search (quantity-short, quantity-to, quantity-broken)
