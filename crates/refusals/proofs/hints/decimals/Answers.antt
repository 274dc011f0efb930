-- `refusals::hints::decimals` meets its contract. Assumes nothing.
use Rattle.refusals.proofs.Hinting.{too-many-put}
use Rattle.refusals.proofs.hints.decimals.Goals as goal

pub returns : goal.returns
returns c = search too-many-put
