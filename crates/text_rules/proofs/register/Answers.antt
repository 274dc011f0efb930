-- `text_rules::register` meets its contract. Assumes nothing.
use Rattle.format.specs.Texts.{is_register}
use Rattle.text_rules.proofs.register.Goals as goal

pub returns : goal.returns
unfolding is_register
returns c = c.text.ensures
