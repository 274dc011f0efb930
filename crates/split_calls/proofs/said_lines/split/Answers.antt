-- `split_calls::said_lines::split` meets its contract. Assumes nothing.
use Rattle.splits.specs.Calls.{split_as}
use Rattle.answer_lines.proofs.Answered.{line-is}
use Rattle.split_calls.proofs.said_lines.split.Goals as goal

pub returns-in-Ok : goal.returns-in-Ok
returns-in-Ok c = search (line-is split_as)

pub returns-in-Err : goal.returns-in-Err
returns-in-Err c = search (line-is split_as)
