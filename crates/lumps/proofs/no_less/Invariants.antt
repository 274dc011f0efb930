-- `lumps::no_less` meets its contract. Assumes nothing.
use Rattle.lumps.proofs.Lumps.{Held}
use Rattle.lumps.proofs.no_less.Given as goal

abbrev pub invariant-loop-i : goal.invariant-loop-i
invariant-loop-i l = Held l.s l.t l.i l.ok
