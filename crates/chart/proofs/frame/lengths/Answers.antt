-- `chart::frame::lengths` meets its contract. Assumes nothing.
use Rattle.chart.proofs.Drawing.{lengths-put}
use Rattle.chart.proofs.frame.lengths.Goals as goal

pub returns : goal.returns
returns c = search lengths-put
