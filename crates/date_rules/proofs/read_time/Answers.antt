-- `date_rules::read_time` meets its contract. Assumes nothing.
use Rattle.format.proofs.Numbers.{empty-is, empty-not}
use Rattle.format.specs.Dates.{read_time_of}
use Rattle.date_rules.proofs.read_time.Goals as goal

pub returns-then-f-eq0 : goal.returns-then-f-eq0
unfolding read_time_of
returns-then-f-eq0 c = search (empty-is, empty-not)

pub returns : goal.returns
unfolding read_time_of
returns c = search (empty-is, empty-not)
