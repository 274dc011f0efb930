-- `cells::moments::moment` meets its contract. Assumes nothing.
use Rattle.page.proofs.Filling.{filled-then}
use Rattle.cells.specs.Moments.{moment_text}
use Rattle.cells.specs.Cells.{field_text}
use Rattle.cells.proofs.moments.moment.Goals as goal

pub returns : goal.returns
unfolding field_text moment_text
returns c = search filled-then
