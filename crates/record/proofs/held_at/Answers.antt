-- `record::held_at` meets its contract. Assumes nothing.
use Rattle.record.proofs.Turns.{held-quantity, held-field}
use Rattle.record.proofs.held_at.Goals as goal

pub returns-then-is_quantity : goal.returns-then-is_quantity
returns-then-is_quantity c = λ fs u. search held-quantity

pub returns : goal.returns
returns c = λ fs u. search held-field
