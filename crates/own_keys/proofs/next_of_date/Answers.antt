-- `own_keys::next_of_date` meets its contract. Assumes nothing.
use Rattle.own_keys.proofs.Others.{passed_none, passed-more}
use Rattle.own_keys.proofs.next_of_date.Goals as goal

pub loop-j-init : goal.loop-j-init
loop-j-init c = search passed_none

pub loop-j-preserved : goal.loop-j-preserved
loop-j-preserved c = search passed-more
