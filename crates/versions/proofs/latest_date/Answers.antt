-- `versions::latest_date` meets its contract. Assumes nothing.
use Rattle.versions.proofs.Dates.{latest-none, latest-is}
use Rattle.versions.proofs.latest_date.Goals as goal

pub returns-then-n-eq0 : goal.returns-then-n-eq0
returns-then-n-eq0 c = search latest-none

pub returns-else-n-eq0 : goal.returns-else-n-eq0
returns-else-n-eq0 c = search latest-is
