-- `measures::axis::height` meets its contract. Assumes nothing.
use native.Mathlib.Omega.{arith}
use Rattle.measures.proofs.Bounds.{top_within, height-is}
use Rattle.measures.proofs.axis.height.Goals as goal

pub height_on-requires : goal.height_on-requires
height_on-requires c = (omega (arith, (top_within c.args.most).low), omega (arith, (top_within c.args.most).high))

pub returns : goal.returns
returns c = search height-is
