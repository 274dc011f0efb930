-- `words::lists::text_at` meets its contract. Assumes nothing.
use Rattle.words.proofs.Listed.{Reached}
use Rattle.words.proofs.lists.text_at.Given as goal

abbrev pub invariant-loop : goal.invariant-loop
invariant-loop l = Reached l.list l.number l.at l.counter
