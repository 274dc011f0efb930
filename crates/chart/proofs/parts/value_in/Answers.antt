-- `chart::parts::value_in` meets its contract. Assumes nothing.
use Rattle.chart.specs.Parts.{value_in}
use Rattle.page.proofs.Filling.{filled-then}
use Rattle.chart.proofs.parts.value_in.Goals as goal

pub returns : goal.returns
unfolding value_in
returns c = search filled-then
