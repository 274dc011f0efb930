-- `lines::all_plain` meets its contract. Assumes nothing.
use Rattle.lines.proofs.Passes.{passes}
use Rattle.lines.proofs.all_plain.Goals as goal
use Rattle.lines.proofs.all_plain.Goals.{then-not-is_plain, else-not-is_plain}

pub loop-b-init : goal.loop-b-init
loop-b-init c = search passes

pub loop-b-preserved : goal.loop-b-preserved
loop-b-preserved c = elim c.if-not-is_plain.branch [ then-not-is_plain w ↦ rw w.ok-is (search passes) | else-not-is_plain w ↦ rw w.ok-is (search passes) ]

pub returns : goal.returns
returns c = search passes
