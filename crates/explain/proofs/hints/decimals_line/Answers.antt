-- `explain::hints::decimals_line` meets its contract. Assumes nothing.
use Rattle.explain.proofs.Saying.{decimals-put, decimals-none}
use Rattle.explain.proofs.hints.decimals_line.Goals as goal

pub returns-then-is_value : goal.returns-then-is_value
returns-then-is_value c = search decimals-put

pub returns : goal.returns
returns c = search decimals-none
