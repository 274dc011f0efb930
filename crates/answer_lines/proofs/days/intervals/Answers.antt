-- `answer_lines::days::intervals` meets its contract. Assumes nothing.
use Rattle.page.proofs.Listed.{counted_none, counted-more, counted-all, counted-kept}
use Rattle.answer_lines.proofs.days.intervals.Goals as goal

pub loop-i-init : goal.loop-i-init
loop-i-init c = search counted_none

pub loop-i-preserved : goal.loop-i-preserved
loop-i-preserved c = search counted-more

pub shape_of-page : goal.shape_of-page
shape_of-page c = search counted-kept

pub returns : goal.returns
returns c = search counted-all
