-- `slots::field` meets its contract: by cases on whether the slot is in use. Assumes nothing.
use Rattle.slots.proofs.Fields.{field-free, field-used}
use Rattle.slots.proofs.field.Goals as goal

pub returns-then-is_used : goal.returns-then-is_used
returns-then-is_used c = search field-used

pub returns-else-is_used : goal.returns-else-is_used
returns-else-is_used c = search field-free
