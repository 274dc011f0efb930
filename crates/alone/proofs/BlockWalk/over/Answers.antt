-- `alone::BlockWalk::over` meets its contract. Assumes nothing.
use Prim.Native.Nat.{◌+◌, ◌≤◌}
use native.Mathlib.Omega.{arith}
use Rattle.order.proofs.Next.{stop-within}
use Rattle.alone.proofs.Walks.{over-room, turned-4, turned-stop, turned_on}
use Rattle.alone.proofs.BlockWalk.over.Goals as goal

pub overflow_add-behind : goal.overflow_add-behind
overflow_add-behind c = let r = over-room _ _ _ c.requires.0 _ c.requires.1 in omega (arith, r)

pub returns-then-is_foreign : goal.returns-then-is_foreign
returns-then-is_foreign c = search turned-4

pub overflow_add-result : goal.overflow_add-result
overflow_add-result c =
    let h : c.args.self.at + c.in-Err.x.place ≤ c.args.found.end = search stop-within in
    let r = over-room _ _ _ c.requires.0 _ c.requires.1 in
    omega (arith, h, r)

pub returns-in-Err : goal.returns-in-Err
returns-in-Err c = search turned-stop

pub returns-in-Ok : goal.returns-in-Ok
returns-in-Ok c = search turned_on
