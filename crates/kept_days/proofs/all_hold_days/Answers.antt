-- `kept_days::all_hold_days` meets its contract. Assumes nothing.
use Rattle.store.proofs.Walks.{each_none, each_more, used-stops, used_all}
use Rattle.kept_days.proofs.all_hold_days.Goals as goal

pub loop-i-init : goal.loop-i-init
loop-i-init c = search each_none

pub returns-then-not-is_free_or_holds_day : goal.returns-then-not-is_free_or_holds_day
returns-then-not-is_free_or_holds_day c = search used-stops

pub loop-i-preserved : goal.loop-i-preserved
loop-i-preserved c = search each_more

pub returns : goal.returns
returns c = search used_all
