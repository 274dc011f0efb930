-- `order::State::closed` meets its contract. Assumes nothing.
use Rattle.order.proofs.State.closed.Goals as goal

pub returns : goal.returns
returns c = rw c.no_tag.ensures
