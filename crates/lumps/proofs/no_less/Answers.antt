-- `lumps::no_less` meets its contract. Assumes nothing.
use Rattle.lumps.proofs.Lumps.{pairs}
use Rattle.lumps.proofs.no_less.Goals as goal
use Rattle.lumps.proofs.no_less.Goals.{then-b-t, else-b-t}

pub loop-i-init : goal.loop-i-init
loop-i-init c = search pairs

pub loop-i-preserved : goal.loop-i-preserved
loop-i-preserved c = elim c.if-b-t.branch [ then-b-t w ↦ rw w.ok-is (search pairs) | else-b-t w ↦ rw w.ok-is (search pairs) ]

pub returns : goal.returns
returns c = search pairs
