-- `split_calls::day` meets its contract. Assumes nothing.
use Rattle.calls.specs.Lines.{lent}
use lib.ListN.{length-take}
use native.Mathlib.Omega.{arith}
use borrow.Author.Rules.{rules}
use Rattle.split_calls.proofs.day.Goals as goal

pub slice_bounds-day_in-end : goal.slice_bounds-day_in-end
slice_bounds-day_in-end c = simp length-take (omega arith)

pub returns : goal.returns
unfolding lent
returns c = search rules
