-- `quick_values::digit_span` meets its contract. Assumes nothing.
use Rattle.quick_values.proofs.Spans.{Far}
use Rattle.quick_values.proofs.digit_span.Given as goal

abbrev pub invariant-loop-i : goal.invariant-loop-i
invariant-loop-i l = Far l.f l.i
