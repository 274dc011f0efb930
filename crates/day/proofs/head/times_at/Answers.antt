-- `day::head::times_at` meets its contract. Assumes nothing.
use Rattle.day.proofs.Top.{time-first, time-second}
use Rattle.day.proofs.head.times_at.Goals as goal

pub returns : goal.returns
returns c = record { update = search time-first; load = search time-second }
