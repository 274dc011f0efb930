-- `chart::parts::amount` meets its contract. Assumes nothing.
use Rattle.chart.specs.Parts.{amount_text}
use Rattle.page.proofs.Filling.{filled-then}
use Rattle.chart.proofs.parts.amount.Goals as goal

pub returns : goal.returns
unfolding amount_text
returns c = search filled-then
