-- `chart::legend::entry` meets its contract. Assumes nothing.
use Rattle.chart.proofs.Drawing.{entry-put}
use Rattle.chart.proofs.legend.entry.Goals as goal

pub returns : goal.returns
returns c = search entry-put
