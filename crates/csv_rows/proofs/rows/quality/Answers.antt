-- `csv_rows::rows::quality` meets its contract. Assumes nothing.
use Rattle.ground.proofs.Tests.{tests}
use Rattle.ground.specs.Digits.{padded}
use Rattle.format.specs.Block.{quality_text}
use Rattle.cells.specs.Cells.{field_text}
use Rattle.csv_rows.proofs.rows.quality.Goals as goal

pub returns-then-method-eq-NO_METHOD : goal.returns-then-method-eq-NO_METHOD
unfolding field_text quality_text padded
returns-then-method-eq-NO_METHOD c = search tests

pub returns-else-method-eq-NO_METHOD : goal.returns-else-method-eq-NO_METHOD
unfolding field_text quality_text padded
returns-else-method-eq-NO_METHOD c = search tests
