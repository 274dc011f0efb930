-- `alone::walk_from` meets its contract. Assumes nothing.
use mathlib.Core.Path.{refl}
use Rattle.walker.proofs.Handed.{handed-none}
use Rattle.alone.proofs.Walks.{stands, turned_left, turned-less, turned-refused, ended}
use borrow.Author.Rules.{rules}
use Rattle.std.proofs.lemmas.Result.{err_from_is_err_and}
use Rattle.alone.proofs.walk_from.Goals as goal

pub loop-found-init : goal.loop-found-init
loop-found-init c = (search rules, λ xs. refl)

pub end-requires : goal.end-requires
end-requires c = (search rules, search handed-none)

pub returns-in_default : goal.returns-in_default
returns-in_default c = search ended

pub over-requires : goal.over-requires
over-requires c = (search rules, search stands)

pub loop-found-smaller : goal.loop-found-smaller
loop-found-smaller c = turned-less _ _ _ _ c.in_ok-t.ensures _ refl

pub loop-found-preserved : goal.loop-found-preserved
loop-found-preserved c = (c.in_ok-t.ensures.0, turned_left _ _ _ _ c.in_ok-t.ensures _ refl _ c.loop-found.invariant.1)

pub returns-in_err-t : goal.returns-in_err-t
returns-in_err-t c =
    let p = err_from_is_err_and c.from_residual.result c.from_residual.ensures.1 in
    rw (p.1, p.2) (turned-refused c.args.memory.now c.args.start c.loop-found.t _ c.in_err-t.ensures _ refl c.args.first c.loop-found.invariant.1)
