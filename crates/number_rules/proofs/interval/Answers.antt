-- `number_rules::interval` meets its contract. Assumes nothing.
use Rattle.format.specs.Numbers.{interval_of}
use Rattle.number_rules.proofs.interval.Goals as goal

pub returns : goal.returns
unfolding interval_of
returns c = c.small.ensures
