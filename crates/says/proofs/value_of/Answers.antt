-- `says::value_of` meets its contract. Assumes nothing.
use Rattle.says.proofs.Fields.{value-is, value-small}
use Rattle.says.proofs.value_of.Goals as goal

pub returns : goal.returns
returns c = search (value-is, value-small)
