-- `alone::check_block` meets its contract. Assumes nothing.
use Rattle.alone.proofs.Walks.{told-stopped, block-order, block_within, told-block}
use mathlib.Core.Path.{refl}
use Rattle.std.proofs.lemmas.Result.{err_from_is_err_and}
use Rattle.alone.proofs.check_block.Goals as goal

pub said_at-s-requires : goal.said_at-s-requires
said_at-s-requires c = (block-order _ _ _ _ c.in_ok-block.ensures refl, block_within _ _ _ _ c.in_ok-block.ensures refl)

pub returns-in_err-block : goal.returns-in_err-block
returns-in_err-block c =
    let p = err_from_is_err_and c.from_residual.result c.from_residual.ensures.1 in
    rw (p.1, p.2) (told-stopped c.args.memory.now c.args.start c.args.minutes c.args.unit c.in_err-block.ensures refl)

pub returns : goal.returns
returns c =
    told-block _ _ _ _ c.in_ok-block.ensures refl c.intervals-n.ensures c.said_at-s.ensures.date c.said_at-s.ensures.update c.said_at-s.ensures.load
