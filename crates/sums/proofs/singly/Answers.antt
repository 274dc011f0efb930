-- `sums::singly` meets its contract. Assumes nothing.
use Rattle.sums.proofs.Sums.{adding-on, adding-end}
use Rattle.sums.proofs.singly.Goals as goal

pub loop-preserved : goal.loop-preserved
loop-preserved c = search adding-on

pub returns : goal.returns
returns c = search adding-end
