-- `text_rules::suffix` meets its contract. Assumes nothing.
use Rattle.format.specs.Texts.{is_suffix}
use Rattle.text_rules.proofs.suffix.Goals as goal

pub returns : goal.returns
unfolding is_suffix
returns c = c.are_all.ensures
