-- `order::State::step` meets its contract. Assumes nothing.
use Rattle.order.proofs.Chain.{begun-400, step-3, step-10, step-4, step-5, typed, step-on}
use borrow.Author.Rules.{rules}
use native.Mathlib.Omega.{arith}
use Rattle.order.proofs.State.step.Goals as goal

pub returns-then-found-e : goal.returns-then-found-e
returns-then-found-e c = (search step-3, omega arith)

pub returns-then-is_open : goal.returns-then-is_open
returns-then-is_open c = (search step-10, search rules)

pub returns-then-not-may_come : goal.returns-then-not-may_come
returns-then-not-may_come c = (search step-4, search rules)

pub returns-then-found-count_of : goal.returns-then-found-count_of
returns-then-found-count_of c = (search step-5, search rules)

pub further-requires : goal.further-requires
further-requires c = (search rules, search typed, search begun-400)

pub returns : goal.returns
returns c = (search step-on, search rules)
