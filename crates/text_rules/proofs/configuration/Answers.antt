-- `text_rules::configuration` meets its contract. Assumes nothing.
use Rattle.format.specs.Texts.{is_configuration}
use Rattle.text_rules.proofs.configuration.Goals as goal

pub returns : goal.returns
unfolding is_configuration
returns c = c.text.ensures
