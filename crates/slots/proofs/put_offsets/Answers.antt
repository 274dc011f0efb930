-- `slots::put_offsets` meets its contract: the first i slots are written (`Writing`). Assumes nothing.
use Rattle.slots.proofs.Fields.{writing-none, writing_more, writing-all}
use native.Mathlib.Omega.{arith}
use Rattle.slots.proofs.put_offsets.Goals as goal

pub loop-i-init : goal.loop-i-init
loop-i-init c = search writing-none

pub loop-i-preserved : goal.loop-i-preserved
loop-i-preserved c = writing_more _ _ _ _ _ _ (omega arith) c.put_offset.ensures c.loop-i.invariant

pub returns : goal.returns
returns c = search writing-all
