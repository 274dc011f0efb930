-- `map_lines::tables::like_other` meets its contract. Assumes nothing.
use Rattle.ground.proofs.Tests.{tests}
use Rattle.map_lines.specs.Tables.{like_text}
use Rattle.page.proofs.Filling.{filled-then}
use Rattle.map_lines.proofs.tables.like_other.Goals as goal

pub returns-then-like-eq0 : goal.returns-then-like-eq0
unfolding like_text
returns-then-like-eq0 c = search tests

pub returns : goal.returns
unfolding like_text
returns c = search (tests, filled-then)
