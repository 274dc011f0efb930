-- `date_rules::next_read_date` meets its contract. Assumes nothing.
use Rattle.format.proofs.Numbers.{empty-is, empty-not}
use Rattle.format.specs.Dates.{next_read_of}
use Rattle.date_rules.proofs.next_read_date.Goals as goal

pub returns-then-n-eq0 : goal.returns-then-n-eq0
unfolding next_read_of
returns-then-n-eq0 c = search (empty-is, empty-not)

pub returns : goal.returns
unfolding next_read_of
returns c = search (empty-is, empty-not)
