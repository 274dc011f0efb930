-- `split_calls::said_lines::parts` meets its contract. Assumes nothing.
use Rattle.page.proofs.Listed.{Counted}
use Rattle.split_calls.specs.Lines.{part_text}
use Rattle.split_calls.proofs.said_lines.parts.Given as goal

abbrev pub invariant-loop-i : goal.invariant-loop-i
invariant-loop-i l = Counted l.initial.page l.at (part_text l.parts) l.n l.page l.p l.i
