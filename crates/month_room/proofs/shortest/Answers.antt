-- `month_room::shortest` meets its contract. Assumes nothing.
use Rattle.month_room.proofs.Lengths.{shortest-is}
use Rattle.month_room.proofs.shortest.Goals as goal

pub returns : goal.returns
returns c = shortest-is _ _ _ _ _ _ _ _ _ _ _ c.shorter-a.ensures c.shorter-b.ensures c.shorter-c.ensures c.shorter-d.ensures c.shorter.ensures
