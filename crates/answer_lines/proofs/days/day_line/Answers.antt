-- `answer_lines::days::day_line` meets its contract. Assumes nothing.
use Rattle.answer_lines.proofs.Answered.{line-day}
use Rattle.answer_lines.proofs.days.day_line.Goals as goal

pub returns : goal.returns
returns c = search line-day
