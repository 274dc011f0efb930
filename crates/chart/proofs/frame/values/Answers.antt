-- `chart::frame::values` meets its contract. Assumes nothing.
use Rattle.chart.specs.Frame.{values_text}
use Rattle.page.proofs.Filling.{filled-then}
use Rattle.chart.proofs.frame.values.Goals as goal

pub returns : goal.returns
unfolding values_text
returns c = search filled-then
