-- `follows::may_come` meets its contract. Assumes nothing.
use Rattle.follows.proofs.Cases.{may}
use Rattle.follows.proofs.may_come.Goals as goal

pub returns-in-100 : goal.returns-in-100
returns-in-100 c = search may

pub returns-then-x-eq1 : goal.returns-then-x-eq1
returns-then-x-eq1 c = search may

pub returns-else-x-eq1 : goal.returns-else-x-eq1
returns-else-x-eq1 c = search may

pub returns-in-300 : goal.returns-in-300
returns-in-300 c = search may

pub returns-in-400 : goal.returns-in-400
returns-in-400 c = search may

pub returns-in-500 : goal.returns-in-500
returns-in-500 c = search may

pub returns-in-250 : goal.returns-in-250
returns-in-250 c = search may

pub returns-in-550 : goal.returns-in-550
returns-in-550 c = search may

pub returns-then-in_day : goal.returns-then-in_day
returns-then-in_day c = search may

pub returns-else-in_day : goal.returns-else-in_day
returns-else-in_day c = search may

pub returns-in_default : goal.returns-in_default
returns-in_default c = search may
