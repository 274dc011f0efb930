-- `csv_rows::times::seconds` meets its contract. Assumes nothing.
use Rattle.csv_rows.proofs.Timed.{seconds-put}
use Rattle.csv_rows.proofs.times.seconds.Goals as goal

pub returns : goal.returns
returns c = search seconds-put
