-- `refusals::hints::unit_name` meets its contract. Assumes nothing.
use Rattle.refusals.proofs.Hinting.{name-put}
use Rattle.refusals.proofs.hints.unit_name.Goals as goal

pub returns : goal.returns
returns c = search name-put
