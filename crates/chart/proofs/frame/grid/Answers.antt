-- `chart::frame::grid` meets its contract. Assumes nothing.
use Rattle.chart.specs.Frame.{grid_text}
use Rattle.page.proofs.Filling.{filled-then}
use Rattle.chart.proofs.frame.grid.Goals as goal

pub returns : goal.returns
unfolding grid_text
returns c = search filled-then
