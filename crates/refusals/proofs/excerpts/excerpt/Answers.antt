-- `refusals::excerpts::excerpt` meets its contract. Assumes nothing.
use Rattle.refusals.proofs.Cutting.{excerpt-put}
use Rattle.refusals.proofs.excerpts.excerpt.Goals as goal

pub returns : goal.returns
returns c = search excerpt-put
