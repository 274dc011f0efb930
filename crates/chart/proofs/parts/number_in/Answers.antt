-- `chart::parts::number_in` meets its contract. Assumes nothing.
use Rattle.chart.specs.Parts.{number_in}
use Rattle.page.proofs.Filling.{filled-then}
use Rattle.chart.proofs.parts.number_in.Goals as goal

pub returns : goal.returns
unfolding number_in
returns c = search filled-then
