-- `text_rules::serial` meets its contract. Assumes nothing.
use Rattle.format.specs.Texts.{is_serial}
use Rattle.text_rules.proofs.serial.Goals as goal

pub returns : goal.returns
unfolding is_serial
returns c = c.text.ensures
