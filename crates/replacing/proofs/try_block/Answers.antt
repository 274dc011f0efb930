-- `replacing::try_block` meets its contract. Assumes nothing.
use Rattle.replacing.proofs.Tries.{try-none, found-there}
use Rattle.std.proofs.lemmas.Result.{err_from_is_err_and}
use Rattle.replacing.proofs.try_block.Goals as goal

pub try_there-requires : goal.try_there-requires
try_there-requires c = found-there _ _ _ c.find_day.ensures _ c.in_ok-found.was

pub returns-in_err-found : goal.returns-in_err-found
returns-in_err-found c =
    let p = err_from_is_err_and c.from_residual.result c.from_residual.ensures.1 in
    rw (p.1, p.2) (try-none _ _ _ c.find_day.ensures _ _ c.in_err-found.was)
