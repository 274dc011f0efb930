-- `chart::parts::text_in` meets its contract. Assumes nothing.
use Rattle.chart.specs.Parts.{text_in}
use Rattle.page.proofs.Filling.{filled-then}
use Rattle.chart.proofs.parts.text_in.Goals as goal

pub returns : goal.returns
unfolding text_in
returns c = search filled-then
