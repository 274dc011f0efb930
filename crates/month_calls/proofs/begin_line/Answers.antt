-- `month_calls::begin_line` meets its contract. Assumes nothing.
use Rattle.month_calls.proofs.Answered.{line_as, intervals-as, kept-as, lists-as}
use Rattle.month_calls.proofs.begin_line.Goals as goal

pub returns : goal.returns
returns c = record { line = line_as c.read_days-x.ensures c.days_shown.ensures.line; intervals = intervals-as c.read_days-x.ensures c.days_shown.ensures.intervals; kept = kept-as c.read_days-x.ensures c.days_shown.ensures.kept; left = lists-as c.read_days-x.ensures }
