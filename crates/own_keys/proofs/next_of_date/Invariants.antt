-- `own_keys::next_of_date` meets its contract. Assumes nothing.
use Rattle.own_keys.specs.Dates.{Passed}
use Rattle.own_keys.proofs.next_of_date.Given as goal

abbrev pub invariant-loop-j : goal.invariant-loop-j
invariant-loop-j l = Passed l.dates l.i l.from l.n l.j
