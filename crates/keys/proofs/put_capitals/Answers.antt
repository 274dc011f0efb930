-- `keys::put_capitals` meets its contract: i bytes of the capitals are written (`Copied`). Each place is inside by the contract. Assumes nothing.
use Rattle.text.proofs.Loops.{copied_none}
use Rattle.keys.proofs.Letters.{capitals-more, capitals-all}
use Rattle.keys.proofs.put_capitals.Goals as goal

pub loop-i-init : goal.loop-i-init
loop-i-init c = copied_none _ _ _

pub loop-i-preserved : goal.loop-i-preserved
loop-i-preserved c = search capitals-more

pub returns : goal.returns
returns c = search capitals-all
