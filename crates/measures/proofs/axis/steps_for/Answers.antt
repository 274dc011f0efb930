-- `measures::axis::steps_for` meets its contract. Assumes nothing.
use native.Mathlib.Omega.{arith}
use Rattle.measures.proofs.Bounds.{reach-within, step-within, steps-is}
use Rattle.measures.proofs.axis.steps_for.Goals as goal

pub overflow_add-result : goal.overflow_add-result
overflow_add-result c = omega (arith, (reach-within c.args.most).high, (step-within c.args.most).high)

pub overflow_sub-result : goal.overflow_sub-result
overflow_sub-result c = omega (arith, (reach-within c.args.most).low)

pub nonzero_div-result : goal.nonzero_div-result
nonzero_div-result c = omega (arith, (step-within c.args.most).low)

pub returns : goal.returns
returns c = search steps-is
