-- `alone::BlockWalk::new` meets its contract. Assumes nothing.
use Rattle.alone.proofs.BlockWalk.new.Goals as goal

pub returns : goal.returns
returns c = rw c.closed.ensures
