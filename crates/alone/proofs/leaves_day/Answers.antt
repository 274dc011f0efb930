-- `alone::leaves_day` meets its contract. Assumes nothing.
use Rattle.alone.proofs.Walks.{leaves_none, leaves-400, leaves-other}
use Rattle.alone.proofs.leaves_day.Goals as goal

pub returns-then-not-in_day : goal.returns-then-not-in_day
returns-then-not-in_day c = search leaves_none

pub returns-then-kind-eq400 : goal.returns-then-kind-eq400
returns-then-kind-eq400 c = search leaves-400

pub returns : goal.returns
returns c = search leaves-other
