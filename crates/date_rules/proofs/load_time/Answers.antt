-- `date_rules::load_time` meets its contract. Assumes nothing.
use Rattle.format.proofs.Numbers.{empty-is, empty-not}
use Rattle.format.specs.Dates.{load_of}
use Rattle.date_rules.proofs.load_time.Goals as goal

pub returns-then-size-eq0 : goal.returns-then-size-eq0
unfolding load_of
returns-then-size-eq0 c = search (empty-is, empty-not)

pub returns : goal.returns
unfolding load_of
returns c = search (empty-is, empty-not)
