-- `day_rows::no_day_in` meets its contract. Assumes nothing.
use Rattle.day_rows.proofs.Showing.{no-day-there, no-day-refused}
use Rattle.day_rows.proofs.no_day_in.Goals as goal

pub returns-in-Ok : goal.returns-in-Ok
returns-in-Ok c = search no-day-there

pub returns-in-Err : goal.returns-in-Err
returns-in-Err c = search no-day-refused
