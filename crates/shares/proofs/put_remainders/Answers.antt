-- `shares::put_remainders` meets its contract. Assumes nothing.
use Rattle.shares.proofs.Loops.{resting, resting-room}
use Rattle.shares.proofs.put_remainders.Goals as goal

pub loop-i-init : goal.loop-i-init
loop-i-init c = search resting

pub overflow_sub-left : goal.overflow_sub-left
overflow_sub-left c = search resting-room

pub loop-i-preserved : goal.loop-i-preserved
loop-i-preserved c = search resting

pub returns : goal.returns
returns c = search resting
