-- `records::record_of` meets its contract. Assumes nothing.
use Rattle.records.proofs.Lookup.{record_is}
use Rattle.records.proofs.record_of.Goals as goal

pub returns : goal.returns
returns c = search record_is
