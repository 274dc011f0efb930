-- `order::State::on_300` meets its contract. Assumes nothing.
use Rattle.follows.proofs.Expected.{under-known}
use Rattle.order.proofs.Late.{no-tag-within}
use Rattle.order.proofs.Late.{on300-7, on300-8, on300-on}
use borrow.Author.Rules.{rules}
use native.Mathlib.Omega.{arith}
use Rattle.order.proofs.State.on_300.Goals as goal

pub returns-then-not-across : goal.returns-then-not-across
returns-then-not-across c = (search on300-7, search rules)

pub returns-then-d-self : goal.returns-then-d-self
returns-then-d-self c = (search on300-8, search rules)

pub returns : goal.returns
returns c = (search on300-on, record { known = search under-known; begun = λ z. omega arith; within = search no-tag-within; small = search rules; few = search rules; channels = omega arith; days = omega arith })
