-- `chart::legend::legend` meets its contract. Assumes nothing.
use Rattle.chart.specs.Legend.{legend_text}
use Rattle.page.proofs.Filling.{filled-then}
use Rattle.chart.proofs.legend.legend.Goals as goal

pub returns : goal.returns
unfolding legend_text
returns c = search filled-then
