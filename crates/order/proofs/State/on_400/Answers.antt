-- `order::State::on_400` meets its contract. Assumes nothing.
use Prim.Native.Nat.{◌≤◌}
use Rattle.order.proofs.Late.{on400-7, on400-9, on400-11, on400-on, goes_small, ran-within, picked-within}
use borrow.Author.Rules.{rules}
use native.Mathlib.Omega.{arith}
use Rattle.order.proofs.State.on_400.Goals as goal

pub returns-then-not-across : goal.returns-then-not-across
returns-then-not-across c = (search on400-7, search rules)

pub returns-then-not-goes_on : goal.returns-then-not-goes_on
returns-then-not-goes_on c = (search on400-9, search rules)

pub alike_with-alike-requires : goal.alike_with-alike-requires
alike_with-alike-requires c = (search rules, search rules, search ran-within)

pub returns-then-whole : goal.returns-then-whole
returns-then-whole c = (search on400-11, search rules)

pub overflow_add-result : goal.overflow_add-result
overflow_add-result c = let k = c.requires.0 in let h : c.args.to ≤ c.args.self.n = search goes_small in omega (arith, k.small)

pub returns : goal.returns
returns c = let k = c.requires.0 in let h = c.requires.1 in (search on400-on, record { known = omega arith; begun = λ z. omega arith; within = search (picked-within, ran-within); small = k.small; few = k.few; channels = omega arith; days = omega arith })
