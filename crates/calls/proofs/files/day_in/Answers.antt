-- `calls::files::day_in` meets its contract. Assumes nothing.
use Rattle.calls.proofs.Answered.{day-as}
use Rattle.calls.proofs.files.day_in.Goals as goal

pub returns : goal.returns
returns c = search day-as
