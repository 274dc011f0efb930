-- `writing::measure_day` meets its contract. Assumes nothing.
use Rattle.writing.proofs.Refusals.{no_length, too_short, values-cut, lists-ready, day-measured}
use mathlib.Core.Path.{ap}
use mathlib.Core.Bool.{not}
use Rattle.writing.proofs.measure_day.Goals as goal

pub returns-then-n-eq0 : goal.returns-then-n-eq0
returns-then-n-eq0 c = search no_length

pub returns-then-not-enough : goal.returns-then-not-enough
returns-then-not-enough c = search too_short

pub slice_bounds-measure_long-end : goal.slice_bounds-measure_long-end
slice_bounds-measure_long-end c = search values-cut

pub measure_long-requires : goal.measure_long-requires
measure_long-requires c = lists-ready _ _ _ _ _ _ _ c.enough.ensures (ap not c.if-not-enough.false) _ c.intervals-n.ensures c.if-n-eq0.false

pub returns : goal.returns
returns c = search day-measured
