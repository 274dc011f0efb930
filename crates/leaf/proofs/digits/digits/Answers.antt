-- `leaf::digits::digits` meets its contract. Assumes nothing.
use Rattle.format.proofs.Numbers.{number_short, number-long, number-over, number-stops, number_is}
use Rattle.ground.proofs.Decimal.{read_none, read_more, digit_low, digit-high, read_fits, read-fits-digit}
use native.Mathlib.Omega.{arith}
use Rattle.leaf.proofs.digits.digits.Goals as goal

ruleset laws = (number_short, number-long, number-over, number-stops, number_is, read_none, read_more, digit_low, digit-high, arith)

pub returns-then-n-least : goal.returns-then-n-least
returns-then-n-least c = search laws

pub returns-then-most-n : goal.returns-then-most-n
returns-then-most-n c = search laws

pub returns-then-n-gt14 : goal.returns-then-n-gt14
returns-then-n-gt14 c = search laws

pub loop-b-init : goal.loop-b-init
loop-b-init c = search laws

pub returns-then-b-lt48 : goal.returns-then-b-lt48
returns-then-b-lt48 c = search laws

pub returns-then-b-gt57 : goal.returns-then-b-gt57
returns-then-b-gt57 c = search laws

pub overflow_mul-v : goal.overflow_mul-v
overflow_mul-v c = search read_fits

pub overflow_add-v : goal.overflow_add-v
overflow_add-v c = rw c.from.ensures (search read-fits-digit)

pub loop-b-preserved : goal.loop-b-preserved
loop-b-preserved c = rw c.from.ensures (search laws)

pub returns : goal.returns
returns c = search laws
