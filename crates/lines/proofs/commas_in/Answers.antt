-- `lines::commas_in` meets its contract. Assumes nothing.
use Rattle.lines.proofs.Passes.{passes}
use native.Mathlib.Omega.{arith}
use Rattle.lines.proofs.commas_in.Goals as goal
use Rattle.lines.proofs.commas_in.Goals.{then-b-eq44, else-b-eq44}

pub loop-b-init : goal.loop-b-init
loop-b-init c = search passes

pub loop-b-preserved : goal.loop-b-preserved
loop-b-preserved c = elim c.if-b-eq44.branch [ then-b-eq44 w ↦ rw w.n-is (search passes) | else-b-eq44 w ↦ rw w.n-is (search passes) ]

pub returns : goal.returns
returns c = search (passes, arith)
