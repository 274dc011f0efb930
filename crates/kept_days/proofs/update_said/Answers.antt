-- `kept_days::update_said` meets its contract. Assumes nothing.
use Rattle.kept_days.proofs.Holds.{update-is, no-update}
use Rattle.kept_days.proofs.update_said.Goals as goal

pub returns-in-Ok : goal.returns-in-Ok
returns-in-Ok c = search (update-is, no-update)

pub returns-in-Err : goal.returns-in-Err
returns-in-Err c = search (update-is, no-update)
