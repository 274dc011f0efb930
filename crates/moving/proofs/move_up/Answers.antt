-- `moving::move_up` meets its contract: one piece less (`up_more`). Assumes nothing.
use Prim.Native.Nat.{◌+◌, ◌-◌, ◌*◌, ◌%◌, ◌≤◌}
use mathlib.Core.Path.{◌≡◌}
use native.Mathlib.Omega.{arith}
use Rattle.moving.proofs.Moves.{up_more}
use Rattle.moving.proofs.move_up.Goals as goal

pub loop-k-preserved : goal.loop-k-preserved
loop-k-preserved c =
    let e : c.args.n % 64 + (c.loop-k.k - 1) * 64 ≡ c.args.n % 64 + c.loop-k.k * 64 - 64 = omega arith in
    let h : 64 ≤ c.args.n % 64 + c.loop-k.k * 64 = omega arith in
    let q = c.move_piece.ensures in
    rw e (up_more _ _ _ _ _ _ _ 64 c.requires.0 c.requires.1 h c.loop-k.invariant (rw e at q))
