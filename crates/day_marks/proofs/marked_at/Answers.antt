-- `day_marks::marked_at` meets its contract. Assumes nothing.
use Rattle.day_marks.proofs.Marks.{run-last, run-tag}
use Rattle.day_marks.proofs.marked_at.Goals as goal

pub returns : goal.returns
returns c = record { to = search run-last; tag = search run-tag }
