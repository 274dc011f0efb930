-- `map_calls::said_lines::outputs` meets its contract. Assumes nothing.
use Rattle.map_calls.specs.Lines.{output_text}
use Rattle.page.proofs.Listed.{Counted}
use Rattle.map_calls.proofs.said_lines.outputs.Given as goal

abbrev pub invariant-loop-i : goal.invariant-loop-i
invariant-loop-i l = Counted l.initial.page l.at (output_text l.keys l.shares) l.n l.page l.p l.i
