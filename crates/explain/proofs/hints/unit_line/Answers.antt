-- `explain::hints::unit_line` meets its contract. Assumes nothing.
use Rattle.explain.proofs.Saying.{line-unit, line-value, line_other}
use Rattle.explain.proofs.hints.unit_line.Goals as goal

pub returns-then-is_unit_field : goal.returns-then-is_unit_field
returns-then-is_unit_field c = search line-unit

pub returns-then-is_value_field : goal.returns-then-is_value_field
returns-then-is_value_field c = search line-value

pub returns : goal.returns
returns c = search line_other
