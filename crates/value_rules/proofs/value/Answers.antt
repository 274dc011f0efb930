-- `value_rules::value` meets its contract. Assumes nothing.
use Rattle.format.proofs.Numbers.{value-whole, value-split, number-under, fraction-under}
use lib.ListN.{length-take}
use native.Mathlib.Omega.{arith}
use Rattle.value_rules.proofs.value.Goals as goal

pub join-requires : goal.join-requires
join-requires c = (rw c.digits.ensures (number-under 1 7 _), omega arith)

pub returns-then-p-n : goal.returns-then-p-n
returns-then-p-n c = search (value-whole, value-split)

pub slice_bounds-digits-end : goal.slice_bounds-digits-end
slice_bounds-digits-end c = simp length-take (omega arith)

pub join-requires-2 : goal.join-requires-2
join-requires-2 c = (rw c.digits-2.ensures (number-under 1 7 _), rw c.fraction.ensures (fraction-under _ _))

pub returns : goal.returns
returns c = search (value-whole, value-split)
