-- `says::read_time_at` meets its contract. Assumes nothing.
use Rattle.format.specs.Dates.{read_time_of}
use Rattle.says.proofs.Fields.{says}
use Rattle.says.proofs.read_time_at.Goals as goal

pub returns : goal.returns
returns c = search (says read_time_of)
