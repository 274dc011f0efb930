-- `chart::bars::hint` meets its contract. Assumes nothing.
use Rattle.chart.specs.Bars.{hint_text}
use Rattle.phrase.proofs.Chained.{filled-four}
use Rattle.chart.proofs.bars.hint.Goals as goal

pub returns : goal.returns
unfolding hint_text
returns c = search filled-four
