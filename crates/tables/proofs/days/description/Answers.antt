-- `tables::days::description` meets its contract. Assumes nothing.
use Rattle.tables.specs.Days.{description_text}
use Rattle.ground.proofs.Tests.{tests}
use Rattle.tables.proofs.days.description.Goals as goal

pub returns-then-is_empty : goal.returns-then-is_empty
unfolding description_text
returns-then-is_empty c = rw (← c.is_empty.ensures, c.if-is_empty.true) (search tests)

pub returns-else-is_empty : goal.returns-else-is_empty
unfolding description_text
returns-else-is_empty c = rw (← c.is_empty.ensures, c.if-is_empty.false) (search tests)
