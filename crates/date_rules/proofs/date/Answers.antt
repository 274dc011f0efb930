-- `date_rules::date` meets its contract. Assumes nothing.
use Rattle.std.proofs.Common.{◌∙◌}
use Rattle.format.specs.Dates.{is_date, date_of}
use Rattle.format.proofs.Numbers.{that-then, that-bad}
use Rattle.date_rules.proofs.date.Goals as goal

pub returns-in_err-t : goal.returns-in_err-t
unfolding date_of
returns-in_err-t c = c.from_residual.ensures ∙ that-bad is_date c.digits.ensures c.in_err-t.was

pub returns : goal.returns
unfolding date_of
returns c = c.then_some.ensures ∙ that-then is_date c.digits.ensures c.in_ok-t.was c.is_date.ensures
