-- `month_calls::said_lines::days_read` meets its contract. Assumes nothing.
use Rattle.answer_lines.proofs.Answered.{line-is}
use Rattle.months.specs.Month.{days_read_as}
use Rattle.month_calls.proofs.said_lines.days_read.Goals as goal

pub returns-in-Ok : goal.returns-in-Ok
returns-in-Ok c = search (line-is days_read_as)

pub returns-in-Err : goal.returns-in-Err
returns-in-Err c = search (line-is days_read_as)
