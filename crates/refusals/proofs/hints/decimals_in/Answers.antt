-- `refusals::hints::decimals_in` meets its contract. Assumes nothing.
use Rattle.refusals.proofs.Hinting.{behind-point, no-point}
use Rattle.refusals.proofs.hints.decimals_in.Goals as goal

pub returns-then-p-value : goal.returns-then-p-value
returns-then-p-value c = search behind-point

pub returns-else-p-value : goal.returns-else-p-value
returns-else-p-value c = search no-point
