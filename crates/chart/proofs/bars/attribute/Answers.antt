-- `chart::bars::attribute` meets its contract. Assumes nothing.
use Rattle.chart.specs.Bars.{attribute_text}
use borrow.Author.Rules.{rules}
use Rattle.chart.proofs.bars.attribute.Goals as goal

pub returns : goal.returns
unfolding attribute_text
returns c = search rules
