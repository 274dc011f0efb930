-- `answer_lines::answers::day_read` meets its contract. Assumes nothing.
use Rattle.format.specs.Answers.{day_read_as}
use Rattle.answer_lines.proofs.Answered.{line-is}
use Rattle.answer_lines.proofs.answers.day_read.Goals as goal

pub returns-in-Ok : goal.returns-in-Ok
returns-in-Ok c = search (line-is day_read_as)

pub returns-in-Err : goal.returns-in-Err
returns-in-Err c = search (line-is day_read_as)
