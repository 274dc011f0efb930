-- `slots::write_header` meets its contract: the seven numbers are written one behind the other (`header-written`). Assumes nothing.
use Rattle.slots.proofs.Numbers.{header-written}
use Rattle.slots.proofs.write_header.Goals as goal

pub returns : goal.returns
returns c = header-written _ _ c.put_number-7.ensures c.put_number-6.ensures c.put_number-5.ensures c.put_number-4.ensures c.put_number-3.ensures c.put_number-2.ensures c.put_number.ensures
