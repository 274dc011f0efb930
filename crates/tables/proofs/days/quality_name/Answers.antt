-- `tables::days::quality_name` meets its contract. Assumes nothing.
use Rattle.tables.specs.Days.{quality_name_text}
use Rattle.page.proofs.Filling.{filled-then}
use Rattle.tables.proofs.days.quality_name.Goals as goal

pub returns : goal.returns
unfolding quality_name_text
returns c = search filled-then
