-- `csv_rows::times::day` meets its contract. Assumes nothing.
use Rattle.csv_rows.proofs.Timed.{day-put}
use Rattle.csv_rows.proofs.times.day.Goals as goal

pub returns : goal.returns
returns c = search day-put
