-- `text_rules::trans_code` meets its contract. Assumes nothing.
use Rattle.format.specs.Texts.{is_trans_code}
use Rattle.text_rules.proofs.trans_code.Goals as goal

pub returns : goal.returns
unfolding is_trans_code
returns c = c.are_all.ensures
