-- `date_rules::is_minute` meets its contract. Assumes nothing.
use Rattle.format.specs.Dates.{is_minute}
use Rattle.date_rules.proofs.is_minute.Goals as goal

pub returns : goal.returns
unfolding is_minute
returns c = c.is_time.ensures
