-- `slots::read_fields` meets its contract: the first i places are filled (`Filled`). Assumes nothing.
use Rattle.slots.proofs.Fields.{filled_none, filled_more, filled-all}
use native.Mathlib.Omega.{arith}
use Rattle.slots.proofs.read_fields.Goals as goal

pub loop-i-init : goal.loop-i-init
loop-i-init c = search filled_none

pub loop-i-preserved : goal.loop-i-preserved
loop-i-preserved c = filled_more _ _ _ _ (omega (arith, c.loop-i.invariant.long)) c.field.ensures c.loop-i.invariant

pub returns : goal.returns
returns c = filled-all _ _ _ _ (omega (arith, c.loop-i.invariant.long)) c.loop-i.invariant
