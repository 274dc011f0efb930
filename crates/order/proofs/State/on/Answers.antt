-- `order::State::on` meets its contract. Assumes nothing.
use Rattle.order.proofs.Chain.{asked, went}
use Rattle.order.proofs.Late.{kept-closed}
use borrow.Author.Rules.{rules}
use native.Mathlib.Omega.{arith}
use Rattle.order.proofs.State.on.Goals as goal

pub on_100-requires : goal.on_100-requires
on_100-requires c = search asked

pub on_200-requires : goal.on_200-requires
on_200-requires c = (search rules, search asked, search asked)

pub on_300-requires : goal.on_300-requires
on_300-requires c = (search rules, search asked, search asked)

pub on_500-requires : goal.on_500-requires
on_500-requires c = (search rules, search asked)

pub on_250-requires : goal.on_250-requires
on_250-requires c = (search rules, search asked, search asked)

pub returns-in-100 : goal.returns-in-100
returns-in-100 c = (search went, search rules)

pub returns-in-200 : goal.returns-in-200
returns-in-200 c = (search went, search rules)

pub returns-in-300 : goal.returns-in-300
returns-in-300 c = (search went, search rules)

pub returns-in-500 : goal.returns-in-500
returns-in-500 c = (search went, search rules)

pub returns-in-250 : goal.returns-in-250
returns-in-250 c = (search went, search rules)

pub returns-in-550 : goal.returns-in-550
returns-in-550 c = let k = c.requires.0.kept in let y = c.requires.0.typed in (search went, kept-closed _ _ c.on_550.ensures (omega arith) (λ z. omega arith) (omega arith) (omega arith) (omega arith) (omega arith))

pub returns-in_default : goal.returns-in_default
returns-in_default c = let k = c.requires.0.kept in let y = c.requires.0.typed in (search went, kept-closed _ _ c.on_900.ensures (omega arith) (λ z. omega arith) (omega arith) (omega arith) (omega arith) (omega arith))
