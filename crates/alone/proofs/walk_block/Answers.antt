-- `alone::walk_block` meets its contract. Assumes nothing.
use Rattle.alone.proofs.Walks.{walking-first, stands-first, entire-stopped, entire-on}
use mathlib.Core.Path.{refl}
use Rattle.std.proofs.lemmas.Result.{err_from_is_err_and}
use Rattle.alone.proofs.walk_block.Goals as goal

pub over-requires : goal.over-requires
over-requires c = (search walking-first, search stands-first)

pub walk_from-requires : goal.walk_from-requires
walk_from-requires c = c.in_ok-next.ensures.0

pub returns : goal.returns
returns c = entire-on _ _ _ _ _ c.new-t.ensures _ c.in_ok-next.ensures refl _ c.walk_from.ensures

pub returns-in_err-next : goal.returns-in_err-next
returns-in_err-next c =
    let p = err_from_is_err_and c.from_residual.result c.from_residual.ensures.1 in
    rw (p.1, p.2) (entire-stopped _ _ _ _ _ c.new-t.ensures _ c.in_err-next.ensures refl)
