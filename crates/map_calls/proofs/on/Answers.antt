-- `map_calls::on` meets its contract. Assumes nothing.
use Rattle.calls.specs.Lines.{lent}
use Rattle.map_calls.specs.Lines.{lent_keys}
use borrow.Author.Rules.{rules}
use lib.ListN.{length-take}
use native.Mathlib.Omega.{arith}
use Rattle.map_calls.proofs.on.Goals as goal

pub slice_bounds-on_in-end : goal.slice_bounds-on_in-end
slice_bounds-on_in-end c = simp length-take (omega arith)

pub slice_bounds-on_in-end-2 : goal.slice_bounds-on_in-end-2
slice_bounds-on_in-end-2 c = simp length-take (omega arith)

pub returns : goal.returns
unfolding lent lent_keys
returns c = search rules
