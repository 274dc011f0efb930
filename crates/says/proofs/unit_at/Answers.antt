-- `says::unit_at` meets its contract. Assumes nothing.
use Rattle.format.specs.Units.{unit_of}
use Rattle.says.proofs.Fields.{unit-fits, says}
use Rattle.says.proofs.unit_at.Goals as goal

pub overflow_cast-result : goal.overflow_cast-result
overflow_cast-result c = search unit-fits

pub returns : goal.returns
returns c = search (says unit_of)
