-- `record::first_asked` meets its contract. Assumes nothing.
use Rattle.ground.proofs.Tests.{tests}
use Rattle.record.specs.Walk.{first_asked}
use Rattle.record.proofs.first_asked.Goals as goal

pub returns-in-200 : goal.returns-in-200
unfolding first_asked
returns-in-200 c = rw c.in-200.is

pub returns-in-300 : goal.returns-in-300
unfolding first_asked
returns-in-300 c = rw c.in-300.is

pub returns-in-500 : goal.returns-in-500
unfolding first_asked
returns-in-500 c = rw c.in-500.is

pub returns-in-250 : goal.returns-in-250
unfolding first_asked
returns-in-250 c = rw c.in-250.is

pub returns-in_default : goal.returns-in_default
unfolding first_asked
returns-in_default c = search tests
