-- `replacing::try_there` meets its contract. Assumes nothing.
use Rattle.replacing.proofs.Tries.{start-within, try-refused, try-another, try-fits}
use Rattle.std.proofs.lemmas.Result.{err_from_is_err_and}
use Rattle.replacing.proofs.try_there.Goals as goal

pub line_end-requires : goal.line_end-requires
line_end-requires c = search start-within

pub returns-then-date-top : goal.returns-then-date-top
returns-then-date-top c = search (try-another, c.in_ok-new.was)

pub returns-in_err-new : goal.returns-in_err-new
returns-in_err-new c =
    let p = err_from_is_err_and c.from_residual.result c.from_residual.ensures.1 in
    rw (p.1, p.2) (try-refused _ _ _ _ _ _ c.requires _ _ c.check_block.ensures _ c.in_err-new.was)

pub returns : goal.returns
returns c = search (try-fits, c.in_ok-new.was)
