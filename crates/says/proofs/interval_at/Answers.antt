-- `says::interval_at` meets its contract. Assumes nothing.
use Rattle.format.specs.Numbers.{interval_of}
use Rattle.says.proofs.Fields.{interval-below}
use Rattle.says.proofs.Fields.{says}
use Rattle.says.proofs.interval_at.Goals as goal

pub returns : goal.returns
returns c = search (says interval_of, interval-below)
