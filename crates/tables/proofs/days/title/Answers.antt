-- `tables::days::title` meets its contract. Assumes nothing.
use Rattle.tables.specs.Days.{title_text}
use Rattle.phrase.proofs.Chained.{filled-four}
use Rattle.tables.proofs.days.title.Goals as goal

pub returns : goal.returns
unfolding title_text
returns c = search filled-four
