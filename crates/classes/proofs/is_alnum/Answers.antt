-- `classes::is_alnum` meets its contract. Assumes nothing.
use mathlib.Core.Path.{◌∙◌}
use Rattle.ground.specs.Digits.{is_digit}
use Rattle.format.specs.Bytes.{is_capital}
use Rattle.classes.proofs.Cases.{alnum-is}
use Rattle.classes.proofs.is_alnum.Goals as goal

pub returns : goal.returns
unfolding is_capital is_digit
returns c = c.is_ascii_alphanumeric.ensures.value ∙ alnum-is c.args.b
