-- `says::load_time_at` meets its contract. Assumes nothing.
use Rattle.format.specs.Dates.{load_of}
use Rattle.says.proofs.Fields.{says}
use Rattle.says.proofs.load_time_at.Goals as goal

pub returns : goal.returns
returns c = search (says load_of)
