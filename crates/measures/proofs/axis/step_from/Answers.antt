-- `measures::axis::step_from` meets its contract. Assumes nothing.
use Rattle.measures.proofs.Bounds.{seeking-first, seeking-next, seeking-found, seeking-out}
use Rattle.measures.proofs.axis.step_from.Goals as goal

pub loop-init : goal.loop-init
loop-init c = search seeking-first

pub returns-then-reach-ten : goal.returns-then-reach-ten
returns-then-reach-ten c = search seeking-found

pub loop-preserved : goal.loop-preserved
loop-preserved c = search seeking-next

pub returns : goal.returns
returns c = search seeking-out
