-- `eights::comma_marks` meets its contract. Assumes nothing.
use Rattle.eights.proofs.Words.{comma-first, comma-some}
use Rattle.eights.proofs.comma_marks.Goals as goal

pub returns : goal.returns
returns c = search (comma-first, comma-some)
