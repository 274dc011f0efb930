-- `edit_calls::said_lines::replaced` meets its contract. Assumes nothing.
use Rattle.replacing.specs.Replace.{replaced_as}
use Rattle.answer_lines.proofs.Answered.{line-is}
use Rattle.edit_calls.proofs.said_lines.replaced.Goals as goal

pub returns-in-Ok : goal.returns-in-Ok
returns-in-Ok c = search (line-is replaced_as)

pub returns-in-Err : goal.returns-in-Err
returns-in-Err c = search (line-is replaced_as)
