-- `order::State::further` meets its contract. Assumes nothing.
use Rattle.order.proofs.Chain.{typed-400, further-400, ready, walk-stops, walk-on}
use Rattle.std.proofs.lemmas.Result.{err_from_is_err_and}
use borrow.Author.Rules.{rules}
use Rattle.order.proofs.State.further.Goals as goal

pub run-requires : goal.run-requires
run-requires c = (c.requires.0, search typed-400, search c.requires.2)

pub returns-then-kind-eq400 : goal.returns-then-kind-eq400
returns-then-kind-eq400 c = (search further-400, search rules)

pub on-requires : goal.on-requires
on-requires c = (search (ready, c.in_ok-w.was), c.if-kind-eq400.false)

pub returns-in_err-w : goal.returns-in_err-w
returns-in_err-w c =
    let p = err_from_is_err_and c.from_residual.result c.from_residual.ensures.1 in
    rw p.1 (walk-stops _ _ _ _ c.args.self _ c.check_fields.ensures c.in_err-w.was p.2)

pub returns : goal.returns
returns c = (search (walk-on, c.in_ok-w.was), search rules)
