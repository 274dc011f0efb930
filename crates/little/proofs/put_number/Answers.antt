-- `little::put_number` meets its contract: what is left of the number goes behind the bytes that are written (`Putting`). Assumes nothing.
use Prim.Native.Nat.{◌+◌}
use Rattle.little.proofs.Numbers.{part-none, part-more, putting-all, putting-past}
use borrow.Rule.Slice.PartMut.{mid_len}
use native.Mathlib.Omega.{arith}
use Rattle.little.proofs.put_number.Goals as goal

pub returns-then-m-at : goal.returns-then-m-at
returns-then-m-at c = search putting-past

pub loop-b-init : goal.loop-b-init
loop-b-init c = part-none _ _ _ _ _

pub loop-b-preserved : goal.loop-b-preserved
loop-b-preserved c =
    let n = mid_len c.args.at (c.args.at + c.min.result) c.args.m.now (omega arith) in
    part-more _ _ _ _ _ _ _ _ (omega arith) (omega arith) (omega arith) c.loop-b.invariant

pub returns : goal.returns
returns c =
    let n = mid_len c.args.at (c.args.at + c.min.result) c.args.m.now (omega arith) in
    putting-all _ _ _ _ _ _ _ _ c.min.ensures (omega arith) (omega arith) c.loop-b.invariant
