-- `alone::is_foreign` meets its contract. Assumes nothing.
use Rattle.alone.proofs.Walks.{foreign-3, foreign-10, foreign-is, open_is, leaves-is}
use Rattle.alone.proofs.is_foreign.Goals as goal

pub returns-then-found-e : goal.returns-then-found-e
returns-then-found-e c = search foreign-3

pub returns-then-is_open : goal.returns-then-is_open
returns-then-is_open c = search (foreign-10, open_is)

pub returns : goal.returns
returns c = search (foreign-is, open_is, leaves-is)
