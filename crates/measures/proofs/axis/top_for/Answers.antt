-- `measures::axis::top_for` meets its contract. Assumes nothing.
use native.Mathlib.Omega.{arith}
use Rattle.measures.proofs.Bounds.{multiple-small, top-is}
use Rattle.measures.proofs.axis.top_for.Goals as goal

pub overflow_mul-result : goal.overflow_mul-result
overflow_mul-result c = omega (arith, multiple-small c.args.most c.steps_for-steps.result c.step_for-step.result (omega arith) c.step_for-step.ensures)

pub returns : goal.returns
returns c = search top-is
