-- `whose::found_at` meets its contract. Assumes nothing.
use Rattle.whose.proofs.Found.{found-is}
use Rattle.whose.proofs.found_at.Goals as goal

pub returns : goal.returns
returns c = search found-is
