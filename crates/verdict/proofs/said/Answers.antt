-- `verdict::said` meets its contract. Assumes nothing.
use Rattle.verdict.proofs.Saying.{said-accepted, said-refused, status-accepted, status-refused}
use Rattle.verdict.proofs.said.Goals as goal

pub returns-in-Ok : goal.returns-in-Ok
returns-in-Ok c = record { says = search said-accepted; status = search status-accepted }

pub returns-in-Err : goal.returns-in-Err
returns-in-Err c = record { says = search said-refused; status = search status-refused }
