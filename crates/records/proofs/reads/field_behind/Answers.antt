-- `records::reads::field_behind` meets its contract. Assumes nothing.
use Rattle.records.proofs.Found.{found_here}
use Rattle.records.proofs.reads.field_behind.Goals as goal

pub returns : goal.returns
returns c = search found_here
