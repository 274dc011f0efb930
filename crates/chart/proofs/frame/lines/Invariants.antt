-- `chart::frame::lines` meets its contract. Assumes nothing.
use Rattle.chart.specs.Frame.{step_text}
use Rattle.page.proofs.Listed.{Counted}
use Rattle.chart.proofs.frame.lines.Given as goal

abbrev pub invariant-loop-k : goal.invariant-loop-k
invariant-loop-k l = Counted l.initial.page l.at (step_text l.most) l.n l.page l.p l.k
