-- `order::State::on_100` meets its contract. Assumes nothing.
use Rattle.order.proofs.Late.{on100-12, on100-13}
use Rattle.order.proofs.State.on_100.Goals as goal

pub returns-then-v-eq12 : goal.returns-then-v-eq12
returns-then-v-eq12 c = search on100-12

pub returns : goal.returns
returns c = search on100-13
