-- `little::put_number` meets its contract: what is left of the number goes behind the bytes that are written (`Putting`). Assumes nothing.
use Prim.Native.Nat.{◌-◌}
use borrow.Rule.Slice.PartMut.{put_mid}
use Rattle.little.proofs.Numbers.{Putting}
use Rattle.little.proofs.put_number.Given as goal

abbrev pub invariant-loop-b : goal.invariant-loop-b
invariant-loop-b l = Putting l.fn.m l.at l.k l.n (put_mid l.at (l.e - l.at) l.fn.m l.b-items) l.b-index l.v
