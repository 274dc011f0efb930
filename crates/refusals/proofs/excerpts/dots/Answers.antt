-- `refusals::excerpts::dots` meets its contract. Assumes nothing.
use Rattle.refusals.proofs.Cutting.{dots-on, dots-off}
use Rattle.refusals.proofs.excerpts.dots.Goals as goal

pub returns-then-cut : goal.returns-then-cut
returns-then-cut c = search dots-on

pub returns-else-cut : goal.returns-else-cut
returns-else-cut c = search dots-off
