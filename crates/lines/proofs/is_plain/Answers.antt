-- `lines::is_plain` meets its contract. Assumes nothing.
use borrow.Author.Tests.{le-leb, lt-leb}
use Rattle.lines.proofs.is_plain.Goals as goal

pub returns-then-b-ge32 : goal.returns-then-b-ge32
returns-then-b-ge32 c = simp (le-leb _ _ c.if-b-ge32.true)

pub returns-else-b-ge32 : goal.returns-else-b-ge32
returns-else-b-ge32 c = simp (lt-leb _ _ c.if-b-ge32.false)
