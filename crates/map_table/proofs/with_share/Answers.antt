-- `map_table::with_share` meets its contract. Assumes nothing.
use Rattle.map_table.proofs.Ways.{share-is, share-none}
use Rattle.map_table.proofs.with_share.Goals as goal

pub returns-in-Some : goal.returns-in-Some
returns-in-Some c = search share-is

pub returns-in-None : goal.returns-in-None
returns-in-None c = search share-none
