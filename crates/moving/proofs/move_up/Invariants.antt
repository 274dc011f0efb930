-- `moving::move_up` meets its contract: k pieces and the rest are still to be moved, and moving them gives what moving all gives (`Up`). Each sum is inside by the
-- contract and the loop's bound. Assumes nothing.
use Prim.Native.Nat.{◌+◌, ◌*◌}
use Rattle.moving.proofs.Moves.{Up}
use Rattle.moving.proofs.move_up.Given as goal

abbrev pub invariant-loop-k : goal.invariant-loop-k
invariant-loop-k l = Up l.initial.room l.a l.b l.n l.room (l.rest + l.k * 64)
