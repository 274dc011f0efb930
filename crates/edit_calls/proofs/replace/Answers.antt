-- `edit_calls::replace` meets its contract. Assumes nothing.
use Rattle.edit_calls.proofs.Answered.{copied-over, copied-front, left-room, left-shown, left-put}
use Rattle.edit_calls.proofs.replace.Goals as goal

pub returns : goal.returns
returns c = record { line = search (left-put, copied-front); bytes = search left-shown; left = search left-room; copied = search copied-over }
