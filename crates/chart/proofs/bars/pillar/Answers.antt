-- `chart::bars::pillar` meets its contract. Assumes nothing.
use Rattle.chart.proofs.Drawing.{pillar-put}
use Rattle.chart.proofs.bars.pillar.Goals as goal

pub returns : goal.returns
returns c = search pillar-put
