-- `refusals::hints::at_most` meets its contract. Assumes nothing.
use Rattle.refusals.proofs.Hinting.{at-most-put}
use Rattle.refusals.proofs.hints.at_most.Goals as goal

pub returns : goal.returns
returns c = search at-most-put
