-- `kept_days::holds_day` meets its contract. Assumes nothing.
use Rattle.kept_days.proofs.Holds.{day-there}
use Rattle.kept_days.proofs.holds_day.Goals as goal

pub returns-then-has_kept_key : goal.returns-then-has_kept_key
returns-then-has_kept_key c = search day-there
