-- `appending::next_version` meets its contract. Assumes nothing.
use Rattle.appending.proofs.Ways.{next-not, next-full, next-behind}
use Rattle.appending.proofs.next_version.Goals as goal

pub returns-then-not-may_follow : goal.returns-then-not-may_follow
returns-then-not-may_follow c = search next-not

pub returns-then-n-ge-MOST : goal.returns-then-n-ge-MOST
returns-then-n-ge-MOST c = search next-full

pub returns : goal.returns
returns c = search next-behind
