-- `day_rows::minutes` meets its contract. Assumes nothing.
use Rattle.day_rows.proofs.Showing.{minutes-five, minutes-fifteen, minutes-thirty}
use Rattle.day_rows.proofs.minutes.Goals as goal

pub returns-in-288 : goal.returns-in-288
returns-in-288 c = search minutes-five

pub returns-in-96 : goal.returns-in-96
returns-in-96 c = search minutes-fifteen

pub returns-in_default : goal.returns-in_default
returns-in_default c = search minutes-thirty
