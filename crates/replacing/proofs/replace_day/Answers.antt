-- `replacing::replace_day` meets its contract. Assumes nothing.
use lib.Seq.{length-take-le}
use Rattle.replacing.proofs.Tries.{replaced-15, replaced-not, replaced-put, fits-order, fits-within, fits-short}
use borrow.Author.Rules.{rules}
use Rattle.std.proofs.lemmas.Result.{err_from_is_err_and}
use Rattle.replacing.proofs.replace_day.Goals as goal

pub returns-then-room-length : goal.returns-then-room-length
returns-then-room-length c = search replaced-15

pub slice_bounds-try_block-end-2 : goal.slice_bounds-try_block-end-2
slice_bounds-try_block-end-2 c = search (length-take-le, rules)

pub put_block-requires : goal.put_block-requires
put_block-requires c = (search (fits-order, c.in_ok-old.was), search (fits-within, c.in_ok-old.was), search (fits-short, c.in_ok-old.was), search rules)

pub returns-in_err-old : goal.returns-in_err-old
returns-in_err-old c =
    let p = err_from_is_err_and c.from_residual.result c.from_residual.ensures.1 in
    rw (p.1, p.2) (search (replaced-not, c.in_err-old.was, rules))

pub returns : goal.returns
returns c = search (replaced-put, c.in_ok-old.was, rules)
