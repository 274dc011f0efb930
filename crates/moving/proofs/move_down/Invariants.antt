-- `moving::move_down` meets its contract: k pieces are moved, and moving what is left gives what moving all gives (`Down`). Each sum is inside by the contract and
-- the loop's bound. Assumes nothing.
use Prim.Native.Nat.{◌*◌}
use Rattle.moving.proofs.Moves.{Down}
use Rattle.moving.proofs.move_down.Given as goal

abbrev pub invariant-loop-k : goal.invariant-loop-k
invariant-loop-k l = Down l.initial.room l.a l.b l.n l.room (l.k * 64)
