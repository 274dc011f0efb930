-- `answer_lines::answers::block_checked` meets its contract. Assumes nothing.
use Rattle.format.specs.Answers.{block_checked_as}
use Rattle.answer_lines.proofs.Answered.{line-is}
use Rattle.answer_lines.proofs.answers.block_checked.Goals as goal

pub returns-in-Ok : goal.returns-in-Ok
returns-in-Ok c = search (line-is block_checked_as)

pub returns-in-Err : goal.returns-in-Err
returns-in-Err c = search (line-is block_checked_as)
