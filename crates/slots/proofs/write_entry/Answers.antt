-- `slots::write_entry` meets its contract: capitals and numbers are written one behind the other (`entry-written`). Assumes nothing.
use Rattle.slots.proofs.Numbers.{entry-written}
use Rattle.slots.proofs.write_entry.Goals as goal

pub returns : goal.returns
returns c = entry-written _ _ _ _ _ _ c.put_numbers.ensures c.put_capitals-2.ensures c.put_capitals.ensures
