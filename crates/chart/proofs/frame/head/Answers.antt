-- `chart::frame::head` meets its contract. Assumes nothing.
use Rattle.chart.specs.Frame.{head_text}
use Rattle.phrase.proofs.Chained.{filled-four}
use Rattle.chart.proofs.frame.head.Goals as goal

pub returns : goal.returns
unfolding head_text
returns c = search filled-four
