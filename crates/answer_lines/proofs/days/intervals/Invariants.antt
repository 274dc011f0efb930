-- `answer_lines::days::intervals` meets its contract. Assumes nothing.
use Rattle.answer_lines.specs.Lines.{interval_in}
use Rattle.page.proofs.Listed.{Counted}
use Rattle.answer_lines.proofs.days.intervals.Given as goal

abbrev pub invariant-loop-i : goal.invariant-loop-i
invariant-loop-i l = Counted l.initial.page l.at (interval_in l.values l.flags l.methods l.reasons l.starts l.lengths) l.n l.page l.p l.i
