-- `field_texts::values::trim` meets its contract. Assumes nothing.
use Rattle.field_texts.proofs.Trimming.{cut-none, cut-more, cut-stops, cut_all}
use Rattle.field_texts.proofs.values.trim.Goals as goal

pub loop-places-init : goal.loop-places-init
loop-places-init c = search cut-none

pub returns-then-number-ne0 : goal.returns-then-number-ne0
returns-then-number-ne0 c = search cut-stops

pub loop-places-preserved : goal.loop-places-preserved
loop-places-preserved c = search cut-more

pub returns : goal.returns
returns c = search cut_all
