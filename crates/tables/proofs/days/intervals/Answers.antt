-- `tables::days::intervals` meets its contract. Assumes nothing.
use Rattle.tables.specs.Days.{intervals_text}
use Rattle.phrase.proofs.Chained.{filled-four}
use Rattle.tables.proofs.days.intervals.Goals as goal

pub returns : goal.returns
unfolding intervals_text
returns c = search filled-four
