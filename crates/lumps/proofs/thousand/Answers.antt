-- `lumps::thousand` meets its contract. Assumes nothing.
use Rattle.quick_values.proofs.Shapes.{thousandths-bytes}
use Rattle.lumps.proofs.Lumps.{thousand-is}
use native.Mathlib.Omega.{arith}
use Rattle.lumps.proofs.thousand.Goals as goal

pub bounds-f-0 : goal.bounds-f-0
bounds-f-0 c = omega (arith, thousandths-bytes _ c.requires)

pub overflow_cast-result : goal.overflow_cast-result
overflow_cast-result c = omega (arith, thousandths-bytes _ c.requires)

pub overflow_mul-result : goal.overflow_mul-result
overflow_mul-result c = omega (arith, thousandths-bytes _ c.requires)

pub bounds-f-2 : goal.bounds-f-2
bounds-f-2 c = omega (arith, thousandths-bytes _ c.requires)

pub overflow_cast-result-2 : goal.overflow_cast-result-2
overflow_cast-result-2 c = omega (arith, thousandths-bytes _ c.requires)

pub overflow_mul-result-2 : goal.overflow_mul-result-2
overflow_mul-result-2 c = omega (arith, thousandths-bytes _ c.requires)

pub overflow_add-result : goal.overflow_add-result
overflow_add-result c = omega (arith, thousandths-bytes _ c.requires)

pub bounds-f-3 : goal.bounds-f-3
bounds-f-3 c = omega (arith, thousandths-bytes _ c.requires)

pub overflow_cast-result-3 : goal.overflow_cast-result-3
overflow_cast-result-3 c = omega (arith, thousandths-bytes _ c.requires)

pub overflow_mul-result-3 : goal.overflow_mul-result-3
overflow_mul-result-3 c = omega (arith, thousandths-bytes _ c.requires)

pub overflow_add-result-2 : goal.overflow_add-result-2
overflow_add-result-2 c = omega (arith, thousandths-bytes _ c.requires)

pub bounds-f-4 : goal.bounds-f-4
bounds-f-4 c = omega (arith, thousandths-bytes _ c.requires)

pub overflow_cast-result-4 : goal.overflow_cast-result-4
overflow_cast-result-4 c = omega (arith, thousandths-bytes _ c.requires)

pub overflow_add-result-3 : goal.overflow_add-result-3
overflow_add-result-3 c = omega (arith, thousandths-bytes _ c.requires)

pub overflow_sub-result : goal.overflow_sub-result
overflow_sub-result c = omega (arith, thousandths-bytes _ c.requires)

pub overflow_mul-result-4 : goal.overflow_mul-result-4
overflow_mul-result-4 c = omega (arith, thousandths-bytes _ c.requires)

pub returns : goal.returns
returns c = record { is = thousand-is _ c.requires; small = omega (arith, thousandths-bytes _ c.requires) }
