-- `classes::is_digit` meets its contract. Assumes nothing.
use Rattle.ground.specs.Digits.{is_digit}
use Rattle.classes.proofs.is_digit.Goals as goal

pub returns : goal.returns
unfolding is_digit
returns c = c.is_ascii_digit.ensures.value
