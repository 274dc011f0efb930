-- `records::field` meets its contract. Assumes nothing.
use Rattle.records.proofs.Lookup.{field_is}
use Rattle.records.proofs.field.Goals as goal

pub returns : goal.returns
returns c = search field_is
