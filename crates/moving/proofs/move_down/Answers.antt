-- `moving::move_down` meets its contract: one piece more (`down-more`). Assumes nothing.
use Prim.Native.Nat.{◌+◌, ◌*◌}
use mathlib.Core.Path.{◌≡◌}
use native.Mathlib.Omega.{arith}
use borrow.Author.Rules.{rules}
use Rattle.moving.proofs.Moves.{down-more}
use Rattle.moving.proofs.move_down.Goals as goal

pub loop-k-preserved : goal.loop-k-preserved
loop-k-preserved c = let e : (c.loop-k.k + 1) * 64 ≡ c.loop-k.k * 64 + 64 = omega arith in rw e (search (down-more, rules))
