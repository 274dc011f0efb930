-- `chart::legend::hatch` meets its contract. Assumes nothing.
use Rattle.chart.specs.Legend.{hatch_text}
use Rattle.page.proofs.Filling.{filled-then}
use Rattle.chart.proofs.legend.hatch.Goals as goal

pub returns : goal.returns
unfolding hatch_text
returns c = search filled-then
