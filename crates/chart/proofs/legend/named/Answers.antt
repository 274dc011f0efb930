-- `chart::legend::named` meets its contract. Assumes nothing.
use Rattle.chart.specs.Legend.{named_text}
use Rattle.page.proofs.Filling.{filled-then}
use Rattle.chart.proofs.legend.named.Goals as goal

pub returns : goal.returns
unfolding named_text
returns c = search filled-then
