-- `split_calls::day_in` meets its contract. Assumes nothing.
use Rattle.split_calls.proofs.Answered.{split-as}
use Rattle.split_calls.proofs.day_in.Goals as goal

pub returns : goal.returns
returns c = search split-as
