-- `quick_values::is_value` meets its contract. Assumes nothing.
use Rattle.format.proofs.Shapes.{value-no-digit, value-digits, value-all, value-apart}
use Rattle.quick_values.proofs.Decimals.{value-decimals}
use borrow.Author.Tests.{ne_eqb}
use Rattle.quick_values.proofs.is_value.Goals as goal

ruleset laws = (value-no-digit, value-digits, value-all, value-apart, value-decimals)

pub returns-then-w-lt1 : goal.returns-then-w-lt1
returns-then-w-lt1 c = search laws

pub returns-then-w-gt7 : goal.returns-then-w-gt7
returns-then-w-gt7 c = search laws

pub returns-then-w-f : goal.returns-then-w-f
returns-then-w-f c = search laws

pub returns-then-f-w-eq46 : goal.returns-then-f-w-eq46
returns-then-f-w-eq46 c = search laws

pub returns-else-f-w-eq46 : goal.returns-else-f-w-eq46
returns-else-f-w-eq46 c = rw (ne_eqb _ _ c.if-f-w-eq46.false) (search laws)
