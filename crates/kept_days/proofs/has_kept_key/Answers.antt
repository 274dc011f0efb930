-- `kept_days::has_kept_key` meets its contract. Assumes nothing.
use Rattle.kept_days.proofs.Holds.{key-there}
use Rattle.kept_days.proofs.has_kept_key.Goals as goal

pub returns : goal.returns
returns c = search key-there
