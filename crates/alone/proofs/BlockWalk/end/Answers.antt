-- `alone::BlockWalk::end` meets its contract. Assumes nothing.
use Rattle.alone.proofs.Walks.{open_is, end_none, end-left, end-10, end-block}
use Rattle.alone.proofs.BlockWalk.end.Goals as goal

pub returns-then-not-in_day : goal.returns-then-not-in_day
returns-then-not-in_day c = search end_none

pub returns-then-self-memory : goal.returns-then-self-memory
returns-then-self-memory c = search end-left

pub returns-then-is_open : goal.returns-then-is_open
returns-then-is_open c = search (end-10, open_is)

pub returns : goal.returns
returns c = search (end-block, open_is)
