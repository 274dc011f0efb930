-- `lines::line_end` meets its contract. Assumes nothing.
use Rattle.lines.proofs.Ends.{line-ends}
use Rattle.lines.proofs.line_end.Goals as goal

pub returns : goal.returns
returns c = search line-ends
