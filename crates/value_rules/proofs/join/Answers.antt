-- `value_rules::join` meets its contract. Assumes nothing.
use Rattle.std.proofs.Common.{◌∙◌}
use Rattle.format.proofs.Numbers.{join-fits, join-fits-both, join_is, none-whole, none-behind}
use Rattle.value_rules.proofs.join.Goals as goal

pub overflow_mul-result : goal.overflow_mul-result
overflow_mul-result c = search (join-fits, c.in_ok-whole.was, c.in_ok-millionths.was)

pub overflow_add-result : goal.overflow_add-result
overflow_add-result c = search (join-fits-both, c.in_ok-whole.was, c.in_ok-millionths.was)

pub returns-in_err-whole : goal.returns-in_err-whole
returns-in_err-whole c = c.from_residual.ensures ∙ none-whole _ c.in_err-whole.was

pub returns-in_err-millionths : goal.returns-in_err-millionths
returns-in_err-millionths c = c.from_residual-in_err-millionths.ensures ∙ none-behind _ c.in_err-millionths.was

pub returns : goal.returns
returns c = search (join_is, c.in_ok-whole.was, c.in_ok-millionths.was)
