-- `taking::slot_for` meets its contract. Assumes nothing.
use Rattle.taking.proofs.Ways.{slot-known, slot-new}
use Rattle.taking.proofs.slot_for.Goals as goal

pub returns-then-i-h : goal.returns-then-i-h
returns-then-i-h c = search slot-known

pub returns-else-i-h : goal.returns-else-i-h
returns-else-i-h c = search slot-new
