-- `day_rows::file_has` meets its contract. Assumes nothing.
use Rattle.day_rows.specs.Shown.{file_has}
use Rattle.page.proofs.Filling.{filled-then}
use Rattle.day_rows.proofs.file_has.Goals as goal

pub returns : goal.returns
unfolding file_has
returns c = search filled-then
