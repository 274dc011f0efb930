-- `own_keys::is_other_behind` meets its contract. Assumes nothing.
use Prim.Native.Nat.{◌-◌, ◌≤◌}
use Rattle.ground.specs.Lists.{all}
use Rattle.store.specs.Store.{other_key}
use Rattle.store.proofs.Walks.{Walked}
use Rattle.own_keys.proofs.is_other_behind.Given as goal

abbrev pub invariant-loop-j : goal.invariant-loop-j
invariant-loop-j l = Walked (all (other_key l.memory l.h l.i)) l.h.map l.h.slots l.from l.j × (l.j ≤ l.h.slots)

abbrev pub decreases-loop-j : goal.decreases-loop-j
decreases-loop-j l = l.n - l.j
