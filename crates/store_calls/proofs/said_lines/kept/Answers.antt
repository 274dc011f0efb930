-- `store_calls::said_lines::kept` meets its contract. Assumes nothing.
use Rattle.store.specs.Calls.{kept_as}
use Rattle.answer_lines.proofs.Answered.{line-is}
use Rattle.store_calls.proofs.said_lines.kept.Goals as goal

pub returns-in-Ok : goal.returns-in-Ok
returns-in-Ok c = search (line-is kept_as)

pub returns-in-Err : goal.returns-in-Err
returns-in-Err c = search (line-is kept_as)
