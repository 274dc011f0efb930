-- `day::walk::intervals_of` meets its contract. Assumes nothing.
use Rattle.day.proofs.Find.{intervals-is}
use Rattle.day.proofs.walk.intervals_of.Goals as goal

pub returns : goal.returns
returns c = search intervals-is
