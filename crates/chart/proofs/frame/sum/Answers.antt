-- `chart::frame::sum` meets its contract. Assumes nothing.
use Rattle.chart.specs.Frame.{sum_text}
use Rattle.page.proofs.Filling.{filled-then}
use Rattle.chart.proofs.frame.sum.Goals as goal

pub returns : goal.returns
unfolding sum_text
returns c = search filled-then
