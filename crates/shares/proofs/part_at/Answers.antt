-- `shares::part_at` meets its contract. Assumes nothing.
use Rattle.shares.proofs.Loops.{part-fits, rests-long, rests-few, part-more, part-down, part-whole}
use native.Mathlib.Omega.{arith}
use Rattle.shares.proofs.part_at.Goals as goal

pub bounds-rs-i : goal.bounds-rs-i
bounds-rs-i c = omega (arith, rests-long c.requires.0)

pub returns-then-rs-i-eq0 : goal.returns-then-rs-i-eq0
returns-then-rs-i-eq0 c = search part-whole

pub before-requires : goal.before-requires
before-requires c = rests-few _ c.requires.0 c.requires.1

pub overflow_add-result : goal.overflow_add-result
overflow_add-result c = omega (arith, part-fits c.args.i c.requires.0.ready)

pub returns-then-before-left : goal.returns-then-before-left
returns-then-before-left c = search part-more

pub returns : goal.returns
returns c = search part-down
