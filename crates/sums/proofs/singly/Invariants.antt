-- `sums::singly` meets its contract. Assumes nothing.
use Prim.Native.Nat.{◌-◌}
use mathlib.Core.Path.{◌≡◌}
use Rattle.sums.proofs.Sums.{Adding}
use Rattle.sums.proofs.singly.Given as goal

abbrev pub invariant-loop : goal.invariant-loop
invariant-loop l = Adding l.file l.x l.e l.m l.counter l.acc l.y × (l.stop ≡ l.e - 7)
