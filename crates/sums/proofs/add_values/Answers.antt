-- `sums::add_values` meets its contract. Assumes nothing.
use Prim.Native.Nat.{◌+◌, ◌-◌, ◌*◌, ◌%◌, ◌≤◌}
use mathlib.Core.Path.{◌≡◌}
use native.Mathlib.Omega.{arith}
use Rattle.sums.proofs.Sums.{sum-on, sum-rest, sum_fits, sum-end}
use Rattle.sums.proofs.add_values.Goals as goal

pub overflow_add-acc : goal.overflow_add-acc
overflow_add-acc c =
    let h : 16 ≤ c.args.n - 16 * c.loop.counter = omega arith in
    let g : 16 * c.loop.counter ≤ c.args.n = omega arith in
    search sum_fits

pub loop-preserved : goal.loop-preserved
loop-preserved c =
    let h : 16 ≤ c.args.n - 16 * c.loop.counter = omega arith in
    let g : 16 * c.loop.counter ≤ c.args.n = omega arith in
    let q : 16 * (c.loop.counter + 1) ≡ 16 * c.loop.counter + 16 = omega arith in
    rw q (search sum-rest, search sum-on)

pub overflow_add-result : goal.overflow_add-result
overflow_add-result c =
    let h : c.args.n % 16 ≤ c.args.n - 16 * c.loop.counter = omega arith in
    let g : 16 * c.loop.counter ≤ c.args.n = omega arith in
    search sum_fits

pub returns : goal.returns
returns c =
    let g : 16 * c.loop.counter ≤ c.args.n = omega arith in
    let q : c.args.n % 16 ≡ c.args.n - 16 * c.loop.counter = omega arith in
    let d = rw q at c.singly.ensures in
    search sum-end
