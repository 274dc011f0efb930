-- `number_rules::indicator` meets its contract. Assumes nothing.
use Rattle.std.proofs.Common.{◌∙◌}
use Rattle.format.specs.Records.{is_kind, indicator_of}
use Rattle.format.proofs.Numbers.{that-then, that-bad}
use Rattle.number_rules.proofs.indicator.Goals as goal

pub returns-in_err-k : goal.returns-in_err-k
unfolding indicator_of
returns-in_err-k c = c.from_residual.ensures ∙ that-bad is_kind c.digits.ensures c.in_err-k.was

pub returns : goal.returns
unfolding indicator_of
returns c = c.then_some.ensures ∙ that-then is_kind c.digits.ensures c.in_ok-k.was c.is_kind.ensures
