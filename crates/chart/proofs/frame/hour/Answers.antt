-- `chart::frame::hour` meets its contract. Assumes nothing.
use Rattle.chart.specs.Frame.{hour_text}
use Rattle.page.proofs.Filling.{filled-then}
use Rattle.chart.proofs.frame.hour.Goals as goal

pub returns : goal.returns
unfolding hour_text
returns c = search filled-then
