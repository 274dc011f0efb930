-- `lines::scan` meets its contract. Assumes nothing.
use Rattle.lines.proofs.Ends.{looked}
use Rattle.lines.proofs.scan.Goals as goal

pub returns : goal.returns
returns c = search looked
