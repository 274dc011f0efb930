-- `order::State::on_200` meets its contract. Assumes nothing.
use Rattle.order.proofs.Late.{on200-on}
use Rattle.order.proofs.State.on_200.Goals as goal

pub returns : goal.returns
returns c = search on200-on
