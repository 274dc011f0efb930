-- `date_rules::time` meets its contract. Assumes nothing.
use Rattle.std.proofs.Common.{◌∙◌}
use Rattle.format.specs.Dates.{is_time, time_of}
use Rattle.format.proofs.Numbers.{that-then, that-bad}
use Rattle.date_rules.proofs.time.Goals as goal

pub returns-in_err-t : goal.returns-in_err-t
unfolding time_of
returns-in_err-t c = c.from_residual.ensures ∙ that-bad is_time c.digits.ensures c.in_err-t.was

pub returns : goal.returns
unfolding time_of
returns c = c.then_some.ensures ∙ that-then is_time c.digits.ensures c.in_ok-t.was c.is_time.ensures
