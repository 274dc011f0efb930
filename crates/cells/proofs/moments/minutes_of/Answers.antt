-- `cells::moments::minutes_of` meets its contract. Assumes nothing.
use Rattle.cells.specs.Moments.{minutes_of}
use Rattle.cells.proofs.Clocks.{minutes-none}
use borrow.Author.Rules.{rules}
use Rattle.cells.proofs.moments.minutes_of.Goals as goal

pub returns-then-n-eq0 : goal.returns-then-n-eq0
returns-then-n-eq0 c = search minutes-none

pub returns-else-n-eq0 : goal.returns-else-n-eq0
unfolding minutes_of
returns-else-n-eq0 c = search rules
