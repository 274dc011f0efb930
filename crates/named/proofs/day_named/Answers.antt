-- `named::day_named` meets its contract. Assumes nothing.
use Rattle.filling.proofs.Cases.{next-noted}
use Rattle.named.proofs.Search.{search-over, search-found, search-on}
use Rattle.named.proofs.day_named.Goals as goal

pub returns-then-is_wanted : goal.returns-then-is_wanted
returns-then-is_wanted c = search search-found

pub loop-k-preserved : goal.loop-k-preserved
loop-k-preserved c = (search next-noted, search search-on)

pub returns : goal.returns
returns c = search search-over
