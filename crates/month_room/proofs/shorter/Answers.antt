-- `month_room::shorter` meets its contract. Assumes nothing.
use Rattle.month_room.proofs.Lengths.{first-shorter, other-shorter}
use Rattle.month_room.proofs.shorter.Goals as goal

pub returns-then-a-b : goal.returns-then-a-b
returns-then-a-b c = search first-shorter

pub returns-else-a-b : goal.returns-else-a-b
returns-else-a-b c = search other-shorter
