-- `slot_reading::read_opened` meets its contract. Assumes nothing.
use Rattle.slot_reading.proofs.SlotWays.{no_slot, slot-used, slot-free}
use Rattle.slot_reading.proofs.read_opened.Goals as goal

pub returns-then-h-slot : goal.returns-then-h-slot
returns-then-h-slot c = search no_slot

pub returns-then-is_used : goal.returns-then-is_used
returns-then-is_used c = search (slot-used, slot-free)

pub returns : goal.returns
returns c = search (slot-used, slot-free)
