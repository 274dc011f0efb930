-- `tables::days::quality` meets its contract. Assumes nothing.
use Rattle.tables.specs.Days.{quality_text}
use Rattle.page.proofs.Filling.{filled-then}
use Rattle.tables.proofs.days.quality.Goals as goal

pub returns : goal.returns
unfolding quality_text
returns c = search filled-then
