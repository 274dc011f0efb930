-- `says::kind_at` meets its contract. Assumes nothing.
use Rattle.says.proofs.Fields.{kind-says}
use Rattle.says.proofs.Fields.{kind-tried}
use Rattle.says.proofs.kind_at.Goals as goal

pub returns-in-Some : goal.returns-in-Some
returns-in-Some c = search kind-tried

pub returns : goal.returns
returns c = search kind-says
