-- `quick_dates::is_date` meets its contract. Assumes nothing.
use Rattle.quick_dates.proofs.CommonDates.{date-common, by-rule}
use Rattle.ground.proofs.Rows.{told-holds}
use mathlib.Core.Path.{sym}
use Rattle.quick_dates.proofs.is_date.Goals as goal

pub returns-then-common_date : goal.returns-then-common_date
returns-then-common_date c = sym (date-common _ (search told-holds))

pub returns : goal.returns
returns c = search by-rule
