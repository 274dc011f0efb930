-- `csv_rows::times::any_day` meets its contract. Assumes nothing.
use Rattle.page.proofs.Filling.{filled-then}
use Rattle.csv_rows.specs.Times.{day_text}
use Rattle.csv_rows.proofs.times.any_day.Goals as goal

pub returns : goal.returns
unfolding day_text
returns c = search filled-then
