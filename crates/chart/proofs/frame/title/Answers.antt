-- `chart::frame::title` meets its contract. Assumes nothing.
use Rattle.chart.specs.Frame.{title_text}
use Rattle.page.proofs.Filling.{filled-then}
use Rattle.chart.proofs.frame.title.Goals as goal

pub returns : goal.returns
unfolding title_text
returns c = search filled-then
