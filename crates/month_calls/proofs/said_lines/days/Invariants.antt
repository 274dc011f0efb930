-- `month_calls::said_lines::days` meets its contract. Assumes nothing.
use Rattle.month_calls.specs.Lines.{day_in}
use Rattle.months.specs.Month.{daily}
use Rattle.page.proofs.Listed.{Counted}
use Rattle.month_calls.proofs.said_lines.days.Given as goal

abbrev pub invariant-loop-i : goal.invariant-loop-i
invariant-loop-i l = Counted l.initial.page l.at (day_in (daily l.dates l.counts l.updates l.loads l.units)) l.n l.page l.p l.i
