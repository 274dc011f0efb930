-- `chart::bars::rect` meets its contract. Assumes nothing.
use Rattle.chart.specs.Bars.{rect_text}
use Rattle.phrase.proofs.Chained.{filled-four}
use Rattle.chart.proofs.bars.rect.Goals as goal

pub returns : goal.returns
unfolding rect_text
returns c = search filled-four
