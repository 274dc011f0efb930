-- `leaf::digits::small` meets its contract. Assumes nothing.
use Rattle.format.proofs.Numbers.{small-zero, small_is}
use Rattle.leaf.proofs.digits.small.Goals as goal

pub returns-then-leading : goal.returns-then-leading
returns-then-leading c = search (small-zero, small_is)

pub returns : goal.returns
returns c = search (small-zero, small_is)
