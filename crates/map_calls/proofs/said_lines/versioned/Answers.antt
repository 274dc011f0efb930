-- `map_calls::said_lines::versioned` meets its contract. Assumes nothing.
use Rattle.answer_lines.proofs.Answered.{line-is}
use Rattle.tenants.specs.Calls.{versioned_as}
use Rattle.map_calls.proofs.said_lines.versioned.Goals as goal

pub returns-in-Ok : goal.returns-in-Ok
returns-in-Ok c = search (line-is versioned_as)

pub returns-in-Err : goal.returns-in-Err
returns-in-Err c = search (line-is versioned_as)
