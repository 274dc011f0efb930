-- `kept_bytes::changed_from` meets its contract. Assumes nothing.
use Rattle.kept_bytes.proofs.Ways.{from-days, from-refused}
use Rattle.kept_bytes.proofs.changed_from.Goals as goal

pub returns-in-Ok : goal.returns-in-Ok
returns-in-Ok c = search from-days

pub returns-in-Err : goal.returns-in-Err
returns-in-Err c = search from-refused
