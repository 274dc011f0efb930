-- `tries::none_to` meets its contract. Assumes nothing.
use Rattle.tries.proofs.Holds.{none-ended}
use Rattle.tries.proofs.none_to.Goals as goal

pub returns-then-ends : goal.returns-then-ends
returns-then-ends c = let s = c.ends.ensures c.if-ends.true in search none-ended
