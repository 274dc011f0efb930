-- `says::reason_of` meets its contract. Assumes nothing.
use Rattle.format.specs.Numbers.{reason_of}
use Rattle.says.proofs.Fields.{reason-fits, says}
use Rattle.says.proofs.reason_of.Goals as goal

pub overflow_cast-result : goal.overflow_cast-result
overflow_cast-result c = search reason-fits

pub returns : goal.returns
returns c = search (says reason_of)
