-- `says::time_at` meets its contract. Assumes nothing.
use Rattle.format.specs.Dates.{time_of}
use Rattle.says.proofs.Fields.{says}
use Rattle.says.proofs.time_at.Goals as goal

pub returns : goal.returns
returns c = search (says time_of)
