-- `map_kept::is_kept_after` meets its contract. Assumes nothing.
use Rattle.map_kept.proofs.Ways.{after-version, after-refusal}
use Rattle.map_kept.proofs.is_kept_after.Goals as goal

pub returns-in-Ok : goal.returns-in-Ok
returns-in-Ok c = search after-version

pub returns-in-Err : goal.returns-in-Err
returns-in-Err c = search after-refusal
