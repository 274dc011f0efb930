-- `sums::lumped` meets its contract. Assumes nothing.
use Prim.Native.Nat.{◌+◌, ◌*◌}
use Rattle.sums.proofs.Sums.{Adding}
use Rattle.sums.proofs.lumped.Given as goal

abbrev pub invariant-loop-i : goal.invariant-loop-i
invariant-loop-i l = Adding l.file l.x l.e 16 l.i l.acc (l.x + 6 * l.i)
