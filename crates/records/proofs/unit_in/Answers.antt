-- `records::unit_in` meets its contract. Assumes nothing.
use Rattle.records.proofs.Lookup.{unit-named}
use Rattle.records.proofs.unit_in.Goals as goal

pub returns : goal.returns
returns c = search unit-named
