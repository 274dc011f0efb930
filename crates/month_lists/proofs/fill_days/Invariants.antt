-- `month_lists::fill_days` meets its contract. Assumes nothing.
use Prim.Native.Nat.{◌≤◌, ◌-◌}
use Rattle.format.specs.Day.{five}
use Rattle.month_lists.proofs.Lay.{Alike}
use Rattle.month_lists.proofs.Turn.{Goes}
use Rattle.months.specs.Month.{lent, daily}
use Rattle.month_lists.proofs.fill_days.Given as goal

abbrev pub invariant-loop-i : goal.invariant-loop-i
invariant-loop-i l = (l.i ≤ l.last - l.first) × Goes l.file l.first l.last (lent l.initial.values (five l.initial.flags l.initial.methods l.initial.reasons l.initial.starts l.initial.lengths) (daily l.initial.dates l.initial.counts l.initial.updates l.initial.loads l.initial.units)) l.at l.k l.i (lent l.values (five l.flags l.methods l.reasons l.starts l.lengths) (daily l.dates l.counts l.updates l.loads l.units)) × Alike (lent l.values (five l.flags l.methods l.reasons l.starts l.lengths) (daily l.dates l.counts l.updates l.loads l.units)) (lent l.initial.values (five l.initial.flags l.initial.methods l.initial.reasons l.initial.starts l.initial.lengths) (daily l.initial.dates l.initial.counts l.initial.updates l.initial.loads l.initial.units))

abbrev pub decreases-loop-i : goal.decreases-loop-i
decreases-loop-i l = l.last - l.first - l.i
