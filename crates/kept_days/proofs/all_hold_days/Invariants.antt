-- `kept_days::all_hold_days` meets its contract. Assumes nothing.
use Rattle.ground.specs.Lists.{all}
use Rattle.store.specs.Store.{holds_day}
use Rattle.store.proofs.Walks.{Walked}
use Rattle.kept_days.proofs.all_hold_days.Given as goal

abbrev pub invariant-loop-i : goal.invariant-loop-i
invariant-loop-i l = Walked (all (holds_day l.memory l.h)) l.h.map l.h.slots 0 l.i
