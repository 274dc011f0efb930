-- `map_lines::until` meets its contract. Assumes nothing.
use Rattle.ground.proofs.Tests.{tests}
use Rattle.map_lines.specs.Lines.{until_text}
use Rattle.page.proofs.Filling.{filled-then}
use Rattle.map_lines.proofs.until.Goals as goal

pub returns-then-next-eq0 : goal.returns-then-next-eq0
unfolding until_text
returns-then-next-eq0 c = search tests

pub returns : goal.returns
unfolding until_text
returns c = search (tests, filled-then)
