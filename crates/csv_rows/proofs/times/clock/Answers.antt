-- `csv_rows::times::clock` meets its contract. Assumes nothing.
use Rattle.csv_rows.proofs.Timed.{clock-put}
use Rattle.csv_rows.proofs.times.clock.Goals as goal

pub returns : goal.returns
returns c = search clock-put
