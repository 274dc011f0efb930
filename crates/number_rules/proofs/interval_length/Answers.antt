-- `number_rules::interval_length` meets its contract. Assumes nothing.
use Rattle.std.proofs.Common.{◌∙◌}
use Rattle.format.specs.Numbers.{is_length, length_of}
use Rattle.format.proofs.Numbers.{that-then, that-bad}
use Rattle.number_rules.proofs.interval_length.Goals as goal

pub returns-in_err-m : goal.returns-in_err-m
unfolding length_of
returns-in_err-m c = c.from_residual.ensures ∙ that-bad is_length c.small.ensures c.in_err-m.was

pub returns : goal.returns
unfolding length_of
returns c = c.then_some.ensures ∙ that-then is_length c.small.ensures c.in_ok-m.was c.is_length.ensures
