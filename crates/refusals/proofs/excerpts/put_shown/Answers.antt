-- `refusals::excerpts::put_shown` meets its contract. Assumes nothing.
use Rattle.page.proofs.Listed.{counted_none, counted-all, counted-kept}
use Rattle.refusals.specs.Excerpts.{shown_text}
use Rattle.refusals.proofs.Cutting.{shown-more}
use Rattle.refusals.proofs.excerpts.put_shown.Goals as goal

pub loop-b-init : goal.loop-b-init
loop-b-init c = search counted_none

pub loop-b-preserved : goal.loop-b-preserved
loop-b-preserved c = search shown-more

pub shape_of-page : goal.shape_of-page
shape_of-page c = search counted-kept

pub returns : goal.returns
unfolding shown_text
returns c = search counted-all
