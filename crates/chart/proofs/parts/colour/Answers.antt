-- `chart::parts::colour` meets its contract. Assumes nothing.
use Rattle.chart.proofs.Drawing.{colour-put}
use Rattle.chart.proofs.parts.colour.Goals as goal

pub returns : goal.returns
returns c = search colour-put
