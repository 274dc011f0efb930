-- `words::lists::next` meets its contract. Assumes nothing.
use native.Mathlib.Omega.{arith}
use Rattle.words.proofs.Listed.{next_more, next-none}
use Rattle.words.proofs.lists.next.Goals as goal

pub returns-then-n-list : goal.returns-then-n-list
returns-then-n-list c = search (next_more, arith)

pub returns-else-n-list : goal.returns-else-n-list
returns-else-n-list c = search (next-none, arith)
