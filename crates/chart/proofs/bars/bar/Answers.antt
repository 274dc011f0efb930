-- `chart::bars::bar` meets its contract. Assumes nothing.
use Rattle.chart.specs.Bars.{interval_text, bar_text}
use Rattle.phrase.proofs.Chained.{filled-four}
use Rattle.chart.proofs.bars.bar.Goals as goal

pub returns : goal.returns
unfolding interval_text bar_text
returns c = search filled-four
