-- `tables::days::dated` meets its contract. Assumes nothing.
use Rattle.tables.specs.Days.{dated_text}
use Rattle.page.proofs.Filling.{filled-then}
use Rattle.tables.proofs.days.dated.Goals as goal

pub returns : goal.returns
unfolding dated_text
returns c = search filled-then
