-- `chart::bars::minutes` meets its contract. Assumes nothing.
use Rattle.chart.specs.Bars.{minutes_text}
use borrow.Author.Rules.{rules}
use Rattle.chart.proofs.bars.minutes.Goals as goal

pub returns : goal.returns
unfolding minutes_text
returns c = search rules
