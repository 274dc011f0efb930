-- `map_table::is_keyless` meets its contract. Assumes nothing.
use Rattle.ground.proofs.Tests.{tests}
use Rattle.map_table.proofs.is_keyless.Goals as goal

pub returns-then-is_empty : goal.returns-then-is_empty
returns-then-is_empty c = rw (← c.is_empty.ensures, c.if-is_empty.true) (search tests)

pub returns-else-is_empty : goal.returns-else-is_empty
returns-else-is_empty c = rw (← c.is_empty.ensures, c.if-is_empty.false) (search tests)
