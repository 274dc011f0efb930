-- `value_rules::fraction` meets its contract. Assumes nothing.
use Rattle.std.proofs.Common.{◌∙◌}
use Rattle.format.proofs.Numbers.{fraction-fits, fraction-is, fraction-bad}
use Rattle.value_rules.proofs.fraction.Goals as goal

pub overflow_mul-result : goal.overflow_mul-result
overflow_mul-result c = search (fraction-fits, c.in_ok-v.was)

pub returns-in_err-v : goal.returns-in_err-v
returns-in_err-v c = c.from_residual.ensures ∙ search (fraction-bad, c.in_err-v.was)

pub returns : goal.returns
returns c = search (fraction-is, c.in_ok-v.was)
