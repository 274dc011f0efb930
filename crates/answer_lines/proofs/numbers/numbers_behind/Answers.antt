-- `answer_lines::numbers::numbers_behind` meets its contract. Assumes nothing.
use Rattle.answer_lines.proofs.Listed.{listed-none, listed_more, listed-all, listed_kept}
use Rattle.answer_lines.proofs.numbers.numbers_behind.Goals as goal

pub loop-n-init : goal.loop-n-init
loop-n-init c = search listed-none

pub loop-n-preserved : goal.loop-n-preserved
loop-n-preserved c = search listed_more

pub shape_of-page : goal.shape_of-page
shape_of-page c = search listed_kept

pub returns : goal.returns
returns c = search listed-all
