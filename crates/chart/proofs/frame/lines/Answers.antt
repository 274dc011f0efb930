-- `chart::frame::lines` meets its contract. Assumes nothing.
use native.Mathlib.Omega.{arith}
use Rattle.page.proofs.Listed.{counted_none, counted-more, counted-all}
use Rattle.measures.proofs.Bounds.{steps-small}
use Rattle.chart.proofs.Drawing.{lines-put}
use Rattle.chart.proofs.frame.lines.Goals as goal

pub overflow_add-n : goal.overflow_add-n
overflow_add-n c = omega (arith, steps-small c.args.most)

pub loop-k-init : goal.loop-k-init
loop-k-init c = search counted_none

pub loop-k-preserved : goal.loop-k-preserved
loop-k-preserved c = search counted-more

pub returns : goal.returns
returns c = search (lines-put, counted-all)
