-- `date_rules::created` meets its contract. Assumes nothing.
use Rattle.std.proofs.Common.{◌∙◌}
use Rattle.format.specs.Dates.{is_minute, created_of}
use Rattle.date_rules.proofs.Cases.{minute-below}
use Rattle.format.proofs.Numbers.{that-then, that-bad}
use Rattle.date_rules.proofs.created.Goals as goal

pub returns-in_err-t : goal.returns-in_err-t
unfolding created_of
returns-in_err-t c = c.from_residual.ensures ∙ that-bad is_minute c.digits.ensures c.in_err-t.was

pub is_minute-requires : goal.is_minute-requires
is_minute-requires c = minute-below _ c.digits.ensures c.in_ok-t.was

pub returns : goal.returns
unfolding created_of
returns c = c.then_some.ensures ∙ that-then is_minute c.digits.ensures c.in_ok-t.was c.is_minute.ensures
