-- `number_rules::reason` meets its contract. Assumes nothing.
use Rattle.format.proofs.Numbers.{empty-is, empty-not}
use Rattle.format.specs.Numbers.{reason_of}
use Rattle.number_rules.proofs.reason.Goals as goal

pub returns-then-f-eq0 : goal.returns-then-f-eq0
unfolding reason_of
returns-then-f-eq0 c = search (empty-is, empty-not)

pub returns : goal.returns
unfolding reason_of
returns c = search (empty-is, empty-not)
