-- `day_rows::no_such_day` meets its contract. Assumes nothing.
use Rattle.day_rows.specs.Shown.{no_such_day}
use Rattle.phrase.proofs.Chained.{filled-four}
use Rattle.day_rows.proofs.no_such_day.Goals as goal

pub returns : goal.returns
unfolding no_such_day
returns c = search filled-four
