-- `refusals::hints::unit_names` meets its contract. Assumes nothing.
use Rattle.page.proofs.Listed.{counted_none, counted-kept}
use Rattle.refusals.proofs.Hinting.{unit-fits, unit-less, names_more, names-all}
use Rattle.refusals.proofs.hints.unit_names.Goals as goal

pub loop-page-init : goal.loop-page-init
loop-page-init c = search counted_none

pub overflow_add-unit : goal.overflow_add-unit
overflow_add-unit c = search unit-fits

pub loop-page-smaller : goal.loop-page-smaller
loop-page-smaller c = search unit-less

pub loop-page-preserved : goal.loop-page-preserved
loop-page-preserved c = search names_more

pub shape_of-page : goal.shape_of-page
shape_of-page c = search counted-kept

pub returns : goal.returns
returns c = search names-all
