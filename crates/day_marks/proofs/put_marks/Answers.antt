-- `day_marks::put_marks` meets its contract. Assumes nothing.
use Rattle.day_marks.proofs.Marks.{covered-v, marks-cover, marks-own}
use Rattle.day_marks.proofs.put_marks.Goals as goal

pub put_cover-requires : goal.put_cover-requires
put_cover-requires c = search covered-v

pub returns-then-t-eq86 : goal.returns-then-t-eq86
returns-then-t-eq86 c = search marks-cover

pub returns-else-t-eq86 : goal.returns-else-t-eq86
returns-else-t-eq86 c = search marks-own
