-- `says::version_at` meets its contract. Assumes nothing.
use Rattle.format.specs.Texts.{version_of}
use Rattle.says.proofs.Fields.{says}
use Rattle.says.proofs.version_at.Goals as goal

pub returns : goal.returns
returns c = search (says version_of)
