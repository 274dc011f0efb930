-- `splitter::split_stored` meets its contract. Assumes nothing.
use Rattle.std.proofs.lemmas.Result.{err_from_is_err_and}
use Rattle.splitter.proofs.Days.{stored_refused, stored-split}
use Rattle.splitter.proofs.split_stored.Goals as goal

pub returns-in_err-sum : goal.returns-in_err-sum
returns-in_err-sum c =
    let p = err_from_is_err_and c.from_residual.result c.from_residual.ensures.1 in
    rw (p.1, p.2) (stored_refused _ _ _ _ _ _ c.stored_sum.ensures c.in_err-sum.was)

pub returns : goal.returns
returns c = stored-split _ _ _ _ _ _ c.stored_sum.ensures c.in_ok-sum.was c.split_on.ensures
