-- `chart::bars::span` meets its contract. Assumes nothing.
use Rattle.chart.proofs.Drawing.{span-put}
use Rattle.chart.proofs.bars.span.Goals as goal

pub returns : goal.returns
returns c = search span-put
