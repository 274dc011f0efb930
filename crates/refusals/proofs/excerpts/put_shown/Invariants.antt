-- `refusals::excerpts::put_shown` meets its contract. Assumes nothing.
use lib.ListN.{length}
use Rattle.page.proofs.Listed.{Counted}
use Rattle.refusals.specs.Excerpts.{shown_at}
use Rattle.refusals.proofs.excerpts.put_shown.Given as goal

abbrev pub invariant-loop-b : goal.invariant-loop-b
invariant-loop-b l = Counted l.initial.page l.at (shown_at l.text) (length l.text) l.page l.p l.b-index
