-- `tables::days::front` meets its contract. Assumes nothing.
use Rattle.tables.specs.Days.{front_text}
use Rattle.phrase.proofs.Chained.{filled_beside}
use Rattle.tables.proofs.days.front.Goals as goal

pub returns : goal.returns
unfolding front_text
returns c = search filled_beside
