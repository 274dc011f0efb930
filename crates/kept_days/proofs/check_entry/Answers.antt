-- `kept_days::check_entry` meets its contract. Assumes nothing.
use Rattle.kept_days.proofs.Holds.{block-says}
use Rattle.kept_days.proofs.check_entry.Goals as goal

pub returns : goal.returns
returns c = search block-says
