-- `explain::refused::shown_line` meets its contract. Assumes nothing.
use Rattle.explain.specs.Said.{shown_line}
use Rattle.ground.proofs.Tests.{tests}
use Rattle.explain.proofs.refused.shown_line.Goals as goal

pub returns-then-is_empty : goal.returns-then-is_empty
unfolding shown_line
returns-then-is_empty c = rw (← c.is_empty.ensures, c.if-is_empty.true) (search tests)

pub returns-else-is_empty : goal.returns-else-is_empty
unfolding shown_line
returns-else-is_empty c = rw (← c.is_empty.ensures, c.if-is_empty.false) (search tests)
