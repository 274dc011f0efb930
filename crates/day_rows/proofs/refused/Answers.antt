-- `day_rows::refused` meets its contract. Assumes nothing.
use Rattle.day_rows.proofs.Showing.{refused-other, refused-14}
use Rattle.day_rows.proofs.refused.Goals as goal

pub returns-then-x-ne14 : goal.returns-then-x-ne14
returns-then-x-ne14 c = search refused-other

pub returns-else-x-ne14 : goal.returns-else-x-ne14
returns-else-x-ne14 c = search refused-14
