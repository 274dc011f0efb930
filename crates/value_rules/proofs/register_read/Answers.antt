-- `value_rules::register_read` meets its contract. Assumes nothing.
use Rattle.format.proofs.Numbers.{read_whole, read-split, read-bad}
use Rattle.format.specs.Numbers.{is_read}
use Rattle.ground.proofs.Tests.{tests}
use lib.ListN.{length-take}
use native.Mathlib.Omega.{arith}
use Rattle.value_rules.proofs.register_read.Goals as goal

pub returns-then-n-gt15 : goal.returns-then-n-gt15
unfolding is_read
returns-then-n-gt15 c = search tests

pub returns-then-p-n : goal.returns-then-p-n
returns-then-p-n c = search (read_whole, read-split, read-bad)

pub slice_bounds-are_digits-end : goal.slice_bounds-are_digits-end
slice_bounds-are_digits-end c = simp length-take (omega arith)

pub returns-then-are_digits : goal.returns-then-are_digits
returns-then-are_digits c = search (read_whole, read-split, read-bad)

pub returns-else-are_digits : goal.returns-else-are_digits
returns-else-are_digits c = rw c.if-are_digits.false (search read-bad)
