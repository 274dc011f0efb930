-- `text_rules::service_order` meets its contract. Assumes nothing.
use Rattle.format.specs.Texts.{is_service_order}
use Rattle.text_rules.proofs.service_order.Goals as goal

pub returns : goal.returns
unfolding is_service_order
returns c = c.text.ensures
