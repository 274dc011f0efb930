-- `chart::legend::first` meets its contract. Assumes nothing.
use Rattle.chart.specs.Legend.{first_text}
use Rattle.page.proofs.Filling.{filled-then}
use Rattle.chart.proofs.legend.first.Goals as goal

pub returns : goal.returns
unfolding first_text
returns c = search filled-then
