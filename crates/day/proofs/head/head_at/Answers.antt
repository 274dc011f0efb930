-- `day::head::head_at` meets its contract. Assumes nothing.
use Rattle.day.proofs.Top.{head-rest, head-date}
use Rattle.day.proofs.head.head_at.Goals as goal

pub returns : goal.returns
returns c = record { is = search head-date; rest = search head-rest }
