-- `slots::put_offset` meets its contract: by cases on whether the slot is in use. Assumes nothing.
use Rattle.slots.proofs.Fields.{offset-free, offset-used}
use Rattle.slots.proofs.put_offset.Goals as goal

pub returns-then-is_used : goal.returns-then-is_used
returns-then-is_used c = search offset-used

pub returns-else-is_used : goal.returns-else-is_used
returns-else-is_used c = search offset-free
