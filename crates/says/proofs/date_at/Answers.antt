-- `says::date_at` meets its contract. Assumes nothing.
use Rattle.format.specs.Dates.{date_of}
use Rattle.says.proofs.Fields.{says, date-below}
use Rattle.says.proofs.date_at.Goals as goal

pub returns : goal.returns
returns c = search (says date_of, date-below)
