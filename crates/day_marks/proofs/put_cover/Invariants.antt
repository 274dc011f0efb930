-- `day_marks::put_cover` meets its contract. Assumes nothing.
use Prim.Native.Nat.{◌≤◌, ◌-◌}
use Rattle.passing.specs.Sound.{covers_from}
use Rattle.day.specs.Places.{runs_at}
use Rattle.day_marks.specs.Marks.{run_tags}
use Rattle.format.specs.Day.{five}
use Rattle.lists.proofs.Laws.{Even}
use Rattle.lists.specs.Lists.{stored}
use lib.ListN.{length}
use mathlib.Core.Bool.{true}
use mathlib.Core.Path.{◌≡◌}
use Rattle.day_marks.proofs.put_cover.Given as goal

abbrev pub invariant-loop-k : goal.invariant-loop-k
invariant-loop-k l = (l.at ≤ length l.file) × (l.k ≤ l.n) × Even (five l.flags l.methods l.reasons l.starts l.lengths) (five l.initial.flags l.initial.methods l.initial.reasons l.initial.starts l.initial.lengths) × (covers_from l.k l.n (runs_at l.file l.at) ≡ true) × (stored (five l.flags l.methods l.reasons l.starts l.lengths) l.k (run_tags (runs_at l.file l.at)) ≡ stored (five l.initial.flags l.initial.methods l.initial.reasons l.initial.starts l.initial.lengths) 0 (run_tags (runs_at l.file l.start)))

abbrev pub decreases-loop-k : goal.decreases-loop-k
decreases-loop-k l = l.n - l.k
