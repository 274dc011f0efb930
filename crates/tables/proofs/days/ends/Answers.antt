-- `tables::days::ends` meets its contract. Assumes nothing.
use Rattle.tables.specs.Days.{end_text}
use Rattle.page.proofs.Filling.{filled-then}
use Rattle.tables.proofs.days.ends.Goals as goal

pub returns : goal.returns
unfolding end_text
returns c = search filled-then
