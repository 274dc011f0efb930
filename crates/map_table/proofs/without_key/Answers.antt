-- `map_table::without_key` meets its contract. Assumes nothing.
use Rattle.map_table.proofs.Ways.{unused-is, unused-shared, unused-none}
use Rattle.map_table.proofs.without_key.Goals as goal

pub returns-then-n-eq0 : goal.returns-then-n-eq0
returns-then-n-eq0 c = search unused-is

pub returns-else-n-eq0 : goal.returns-else-n-eq0
returns-else-n-eq0 c = search unused-shared

pub returns-in-None : goal.returns-in-None
returns-in-None c = search unused-none
