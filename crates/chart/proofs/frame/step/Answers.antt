-- `chart::frame::step` meets its contract. Assumes nothing.
use native.Mathlib.Omega.{arith}
use Rattle.measures.proofs.Bounds.{multiple-small}
use Rattle.chart.proofs.Drawing.{step-put}
use Rattle.chart.proofs.frame.step.Goals as goal

pub overflow_mul-v : goal.overflow_mul-v
overflow_mul-v c = omega (arith, multiple-small c.args.most c.args.k c.step_for.result c.requires c.step_for.ensures)

pub returns : goal.returns
returns c = search step-put
