-- `csv_rows::rows::reason` meets its contract. Assumes nothing.
use Rattle.ground.proofs.Tests.{tests}
use Rattle.page.proofs.Filling.{filled-then}
use Rattle.format.specs.Block.{reason_text}
use Rattle.cells.specs.Cells.{field_text}
use Rattle.csv_rows.proofs.rows.reason.Goals as goal

pub returns-then-code-eq-NO_REASON : goal.returns-then-code-eq-NO_REASON
unfolding field_text reason_text
returns-then-code-eq-NO_REASON c = search tests

pub returns : goal.returns
unfolding field_text reason_text
returns c = search (filled-then, tests)
