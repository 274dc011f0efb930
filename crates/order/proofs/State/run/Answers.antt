-- `order::State::run` meets its contract. Assumes nothing.
use Rattle.order.proofs.Chain.{behind-400, ran, run-stops, run_on}
use Rattle.std.proofs.lemmas.Result.{err_from_is_err_and}
use borrow.Author.Rules.{rules}
use Rattle.order.proofs.State.run.Goals as goal

pub on_400-requires : goal.on_400-requires
on_400-requires c = (search rules, search behind-400, search (ran, c.in_ok-r.was), search rules)

pub returns-in_err-r : goal.returns-in_err-r
returns-in_err-r c =
    let p = err_from_is_err_and c.from_residual.result c.from_residual.ensures.1 in
    rw p.1 (run-stops _ _ _ _ c.run_at.ensures c.args.self c.in_err-r.was p.2)

pub returns : goal.returns
returns c = (search (run_on, c.in_ok-r.was), search rules)
