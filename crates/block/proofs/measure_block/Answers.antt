-- `block::measure_block` meets its contract. Assumes nothing.
use Prim.Native.Nat.{◌≤◌}
use Rattle.block.proofs.Pieces.{ready_marked, values-few, first-fit, uniform-sizes, varied-sizes}
use native.Mathlib.Omega.{arith}
use Rattle.block.proofs.measure_block.Goals as goal

pub measure_runs-runs-requires : goal.measure_runs-runs-requires
measure_runs-runs-requires c = search ready_marked

pub overflow_add-w : goal.overflow_add-w
overflow_add-w c = let h : c.args.k ≤ 4320 = search values-few in omega arith

pub overflow_add-w-2 : goal.overflow_add-w-2
overflow_add-w-2 c = let h : c.args.k ≤ 4320 = search values-few in omega arith

pub mark_len-requires : goal.mark_len-requires
mark_len-requires c = search first-fit

pub overflow_add-result : goal.overflow_add-result
overflow_add-result c = let h : c.args.k ≤ 4320 = search values-few in omega arith

pub returns-then-r-eq1 : goal.returns-then-r-eq1
returns-then-r-eq1 c = search uniform-sizes

pub overflow_add-result-2 : goal.overflow_add-result-2
overflow_add-result-2 c = let h : c.args.k ≤ 4320 = search values-few in omega arith

pub overflow_add-result-3 : goal.overflow_add-result-3
overflow_add-result-3 c = let h : c.args.k ≤ 4320 = search values-few in omega arith

pub returns : goal.returns
returns c = search varied-sizes
