-- `slots::read_header` meets its contract: it is the seven numbers that were read (`header-there`). Assumes nothing.
use Rattle.slots.proofs.Numbers.{header-there}
use Rattle.slots.proofs.read_header.Goals as goal

pub returns : goal.returns
returns c = search header-there
