-- `answer_lines::answers::written` meets its contract. Assumes nothing.
use Rattle.format.specs.Answers.{written_as}
use Rattle.answer_lines.proofs.Answered.{line-is}
use Rattle.answer_lines.proofs.answers.written.Goals as goal

pub returns-in-Ok : goal.returns-in-Ok
returns-in-Ok c = search (line-is written_as)

pub returns-in-Err : goal.returns-in-Err
returns-in-Err c = search (line-is written_as)
