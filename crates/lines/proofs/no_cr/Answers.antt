-- `lines::no_cr` meets its contract. Assumes nothing.
use Rattle.lines.proofs.Passes.{passes}
use Rattle.lines.proofs.no_cr.Goals as goal
use Rattle.lines.proofs.no_cr.Goals.{then-b-eq13, else-b-eq13}

pub loop-b-init : goal.loop-b-init
loop-b-init c = search passes

pub loop-b-preserved : goal.loop-b-preserved
loop-b-preserved c = elim c.if-b-eq13.branch [ then-b-eq13 w ↦ rw w.ok-is (search passes) | else-b-eq13 w ↦ rw w.ok-is (search passes) ]

pub returns : goal.returns
returns c = search passes
