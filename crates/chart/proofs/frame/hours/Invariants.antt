-- `chart::frame::hours` meets its contract. Assumes nothing.
use Rattle.chart.specs.Frame.{hour_text}
use Rattle.page.proofs.Listed.{Counted}
use Rattle.chart.proofs.frame.hours.Given as goal

abbrev pub invariant-loop-k : goal.invariant-loop-k
invariant-loop-k l = Counted l.initial.page l.at hour_text 9 l.page l.p l.k
