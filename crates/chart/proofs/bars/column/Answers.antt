-- `chart::bars::column` meets its contract. Assumes nothing.
use Rattle.chart.proofs.Drawing.{column-put}
use Rattle.chart.proofs.bars.column.Goals as goal

pub returns : goal.returns
returns c = search column-put
