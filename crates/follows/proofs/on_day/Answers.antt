-- `follows::on_day` meets its contract. Assumes nothing.
use native.Mathlib.Omega.{arith}
use Rattle.follows.proofs.Cases.{not-midnight, not-given, not_after, at-midnight}
use Rattle.follows.proofs.on_day.Goals as goal

pub returns-then-time-eq0 : goal.returns-then-time-eq0
returns-then-time-eq0 c = search not-given

pub returns-then-time-ne0 : goal.returns-then-time-ne0
returns-then-time-ne0 c = not-midnight _ _ (λ e. omega arith)

pub returns-then-date-day : goal.returns-then-date-day
returns-then-date-day c = at-midnight _ _ (omega arith) (λ e. omega arith) c.day_after.ensures

pub returns-else-date-day : goal.returns-else-date-day
returns-else-date-day c = not_after _ _ (omega arith) (λ e. omega arith) (omega arith)
