-- `text_rules::nmi` meets its contract. Assumes nothing.
use Rattle.format.specs.Texts.{is_nmi}
use Rattle.text_rules.proofs.nmi.Goals as goal

pub returns : goal.returns
unfolding is_nmi
returns c = c.are_all.ensures
