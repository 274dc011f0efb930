-- `order::State::on_500` meets its contract. Assumes nothing.
use Rattle.order.proofs.Late.{kept-closed}
use Rattle.order.proofs.Late.{on500-12, on500-on}
use borrow.Author.Rules.{rules}
use native.Mathlib.Omega.{arith}
use Rattle.order.proofs.State.on_500.Goals as goal

pub returns-then-not-on_day : goal.returns-then-not-on_day
returns-then-not-on_day c = (search on500-12, search rules)

pub returns : goal.returns
returns c = (search on500-on, kept-closed _ _ c.closed.ensures (omega arith) (λ z. omega arith) (omega arith) (omega arith) (omega arith) (omega arith))
