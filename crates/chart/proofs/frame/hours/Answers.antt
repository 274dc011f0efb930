-- `chart::frame::hours` meets its contract. Assumes nothing.
use Rattle.page.proofs.Listed.{counted_none, counted-more, counted-all}
use Rattle.chart.proofs.frame.hours.Goals as goal

pub loop-k-init : goal.loop-k-init
loop-k-init c = search counted_none

pub loop-k-preserved : goal.loop-k-preserved
loop-k-preserved c = search counted-more

pub returns : goal.returns
returns c = search counted-all
