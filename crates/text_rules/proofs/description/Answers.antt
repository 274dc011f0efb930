-- `text_rules::description` meets its contract. Assumes nothing.
use Rattle.format.specs.Texts.{is_description}
use Rattle.text_rules.proofs.description.Goals as goal

pub returns : goal.returns
unfolding is_description
returns c = c.text.ensures
