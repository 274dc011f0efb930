-- `calls::files::day_shown` meets its contract. Assumes nothing.
use Rattle.calls.proofs.Answered.{day-put}
use Rattle.calls.proofs.files.day_shown.Goals as goal

pub returns : goal.returns
returns c = search day-put
