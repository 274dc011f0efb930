-- `quick_dates::is_time` meets its contract. Assumes nothing.
use Rattle.quick_dates.proofs.CommonDates.{time-common, by-rule}
use Rattle.ground.proofs.Rows.{told-holds}
use mathlib.Core.Path.{sym}
use Rattle.quick_dates.proofs.is_time.Goals as goal

pub returns-then-common_time : goal.returns-then-common_time
returns-then-common_time c = sym (time-common _ (search told-holds))

pub returns : goal.returns
returns c = search by-rule
