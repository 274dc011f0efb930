-- `own_keys::are_all_own` meets its contract. Assumes nothing.
use Rattle.store.specs.Store.{other_key, pairwise}
use Rattle.store.proofs.Walks.{Walked}
use Rattle.own_keys.proofs.are_all_own.Given as goal

abbrev pub invariant-loop-i : goal.invariant-loop-i
invariant-loop-i l = Walked (pairwise (other_key l.memory l.h)) l.h.map l.h.slots 0 l.i
