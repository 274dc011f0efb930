-- `record::second_asked` meets its contract. Assumes nothing.
use Rattle.ground.proofs.Tests.{tests}
use Rattle.record.specs.Walk.{second_asked}
use Rattle.record.proofs.second_asked.Goals as goal

pub returns-in-200 : goal.returns-in-200
unfolding second_asked
returns-in-200 c = rw c.in-200.is

pub returns-in-250 : goal.returns-in-250
unfolding second_asked
returns-in-250 c = rw c.in-250.is

pub returns-in_default : goal.returns-in_default
unfolding second_asked
returns-in_default c = search tests
