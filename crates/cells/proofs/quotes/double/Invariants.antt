-- `cells::quotes::double` meets its contract. Assumes nothing.
use lib.ListN.{length}
use Rattle.page.proofs.Listed.{Counted}
use Rattle.cells.proofs.Doubling.{twice_at}
use Rattle.cells.proofs.quotes.double.Given as goal

abbrev pub invariant-loop-b : goal.invariant-loop-b
invariant-loop-b l = Counted l.initial.page l.at (twice_at l.text) (length l.text) l.page l.p l.b-index
