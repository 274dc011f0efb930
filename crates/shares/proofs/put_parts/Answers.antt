-- `shares::put_parts` meets its contract. Assumes nothing.
use Rattle.shares.proofs.Loops.{parting}
use Rattle.shares.proofs.put_parts.Goals as goal

pub loop-i-init : goal.loop-i-init
loop-i-init c = search parting

pub loop-i-preserved : goal.loop-i-preserved
loop-i-preserved c = search parting

pub returns : goal.returns
returns c = search parting
