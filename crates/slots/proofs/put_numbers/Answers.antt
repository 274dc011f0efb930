-- `slots::put_numbers` meets its contract: the numbers are written one behind the other (`numbers-written`). Assumes nothing.
use Rattle.slots.proofs.Numbers.{numbers-written}
use Rattle.slots.proofs.put_numbers.Goals as goal

pub returns : goal.returns
returns c = numbers-written _ _ _ _ c.put_number-5.ensures c.put_number-4.ensures c.put_number-3.ensures c.put_number-2.ensures c.put_number.ensures
