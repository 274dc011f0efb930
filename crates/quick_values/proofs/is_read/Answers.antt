-- `quick_values::is_read` meets its contract. Assumes nothing.
use Rattle.format.specs.Numbers.{is_read}
use Rattle.ground.proofs.Tests.{tests}
use Rattle.quick_values.proofs.RegisterReads.{read_none, read-apart, read_all}
use Rattle.quick_values.proofs.Decimals.{read-decimals}
use borrow.Author.Tests.{ne_eqb}
use Rattle.quick_values.proofs.is_read.Goals as goal

pub returns-then-f-gt15 : goal.returns-then-f-gt15
unfolding is_read
returns-then-f-gt15 c = search tests

pub returns-then-w-lt1 : goal.returns-then-w-lt1
returns-then-w-lt1 c = search read_none

pub returns-then-w-f : goal.returns-then-w-f
returns-then-w-f c = search read_all

pub returns-then-f-w-eq46 : goal.returns-then-f-w-eq46
returns-then-f-w-eq46 c = search read-decimals

pub returns-else-f-w-eq46 : goal.returns-else-f-w-eq46
returns-else-f-w-eq46 c = rw (ne_eqb _ _ c.if-f-w-eq46.false) (search read-apart)
