-- `slot_reading::read_used` meets its contract. Assumes nothing.
use Rattle.slot_reading.proofs.SlotWays.{used-says}
use Rattle.slot_reading.proofs.read_used.Goals as goal

pub returns : goal.returns
returns c = search used-says
