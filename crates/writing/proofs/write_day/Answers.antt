-- `writing::write_day` meets its contract. Assumes nothing.
use Rattle.writing.proofs.Refusals.{no_length, no-length-left, too_short, too-short-left, values-cut, lists-ready, day-answer, day-left}
use mathlib.Core.Path.{ap}
use mathlib.Core.Bool.{not}
use Rattle.writing.proofs.write_day.Goals as goal

pub returns-then-n-eq0 : goal.returns-then-n-eq0
returns-then-n-eq0 c = record { answer = search no_length; left = search no-length-left }

pub returns-then-not-enough : goal.returns-then-not-enough
returns-then-not-enough c = record { answer = search too_short; left = search too-short-left }

pub slice_bounds-write_long-end : goal.slice_bounds-write_long-end
slice_bounds-write_long-end c = search values-cut

pub write_long-requires : goal.write_long-requires
write_long-requires c = lists-ready _ _ _ _ _ _ _ c.enough.ensures (ap not c.if-not-enough.false) _ c.intervals-n.ensures c.if-n-eq0.false

pub returns : goal.returns
returns c = record { answer = search day-answer; left = search day-left }
