-- `day_rows::no_day` meets its contract. Assumes nothing.
use Rattle.day_rows.specs.Shown.{no_day}
use Rattle.page.proofs.Filling.{filled-then}
use Rattle.day_rows.proofs.no_day.Goals as goal

pub returns : goal.returns
unfolding no_day
returns c = search filled-then
