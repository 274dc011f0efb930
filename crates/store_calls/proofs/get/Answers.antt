-- `store_calls::get` meets its contract. Assumes nothing.
use Rattle.calls.specs.Lines.{lent}
use lib.ListN.{length-take}
use native.Mathlib.Omega.{arith}
use borrow.Author.Rules.{rules}
use Rattle.store_calls.proofs.get.Goals as goal

pub slice_bounds-get_in-end : goal.slice_bounds-get_in-end
slice_bounds-get_in-end c = simp length-take (omega arith)

pub slice_bounds-get_in-end-2 : goal.slice_bounds-get_in-end-2
slice_bounds-get_in-end-2 c = simp length-take (omega arith)

pub slice_bounds-get_in-end-3 : goal.slice_bounds-get_in-end-3
slice_bounds-get_in-end-3 c = simp length-take (omega arith)

pub slice_bounds-get_in-end-4 : goal.slice_bounds-get_in-end-4
slice_bounds-get_in-end-4 c = simp length-take (omega arith)

pub slice_bounds-get_in-end-5 : goal.slice_bounds-get_in-end-5
slice_bounds-get_in-end-5 c = simp length-take (omega arith)

pub slice_bounds-get_in-end-6 : goal.slice_bounds-get_in-end-6
slice_bounds-get_in-end-6 c = simp length-take (omega arith)

pub returns : goal.returns
unfolding lent
returns c = search rules
