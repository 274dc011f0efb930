-- `day::walk::unit_of` meets its contract. Assumes nothing.
use Rattle.day.proofs.Find.{unit-is}
use Rattle.day.proofs.walk.unit_of.Goals as goal

pub returns : goal.returns
returns c = search unit-is
