-- `packing::next_block` meets its contract: of the first i ranges the one found is the one sought (`Seeking`). Assumes nothing.
use Rattle.packing.proofs.Seeks.{seeking-none, seeking-found, seeking-on, seeking-all}
use Rattle.packing.proofs.next_block.Goals as goal
use Rattle.packing.proofs.next_block.Goals.{then-nearer, else-nearer}

pub loop-i-init : goal.loop-i-init
loop-i-init c = search seeking-none

pub loop-i-preserved : goal.loop-i-preserved
loop-i-preserved c =
    elim c.if-nearer.branch [
      | then-nearer w ↦ rw (w.best-is, w.least-is) (search seeking-found)
      | else-nearer w ↦ rw (w.best-is, w.least-is) (search seeking-on)
    ]

pub returns : goal.returns
returns c = search (seeking-all, c.type_inv.places)
