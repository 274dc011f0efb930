-- `answer_lines::numbers::numbers_behind` meets its contract. Assumes nothing.
use Rattle.answer_lines.proofs.Listed.{Listed}
use Rattle.answer_lines.proofs.numbers.numbers_behind.Given as goal

abbrev pub invariant-loop-n : goal.invariant-loop-n
invariant-loop-n l = Listed l.initial.page l.at l.sign l.list l.page l.p l.n-index
