-- `alone::block_date` meets its contract. Assumes nothing.
use Rattle.alone.proofs.Walks.{date-none, block-order, block_within, date-is}
use Rattle.alone.proofs.block_date.Goals as goal

pub head_at-h-requires : goal.head_at-h-requires
head_at-h-requires c = (search block-order, search block_within)

pub returns-in-Err : goal.returns-in-Err
returns-in-Err c = search (date-none, date-is)

pub returns-in-Ok : goal.returns-in-Ok
returns-in-Ok c = search (date-none, date-is)
