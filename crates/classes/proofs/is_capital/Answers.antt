-- `classes::is_capital` meets its contract. Assumes nothing.
use Rattle.format.specs.Bytes.{is_capital}
use Rattle.classes.proofs.is_capital.Goals as goal

pub returns : goal.returns
unfolding is_capital
returns c = c.is_ascii_uppercase.ensures.value
