-- `slots::read_entry` meets its contract: behind the end there is nothing but 0 (`entry_past`), and else it is the four numbers that were read
-- (`entry-there`). Assumes nothing.
use Rattle.slots.proofs.Numbers.{entry_past, entry-there}
use Rattle.slots.proofs.read_entry.Goals as goal

pub returns-then-m-at : goal.returns-then-m-at
returns-then-m-at c = search entry_past

pub returns : goal.returns
returns c = search entry-there
