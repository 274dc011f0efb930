-- `month_calls::said_lines::day` meets its contract. Assumes nothing.
use Rattle.month_calls.proofs.Answered.{day-put}
use Rattle.month_calls.proofs.said_lines.day.Goals as goal

pub returns : goal.returns
returns c = search day-put
