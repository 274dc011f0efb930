-- `fit::fit_tag` meets its contract. Assumes nothing.
use Prim.Native.Nat.{◌+◌, ◌≤◌}
use Rattle.fit.proofs.Marks.{inside-room, tag-unfit, tag-empty, tag-outside, tag-fit}
use lib.ListN.{length}
use native.Mathlib.Omega.{arith}
use Rattle.fit.proofs.fit_tag.Goals as goal

pub overflow_add-s : goal.overflow_add-s
overflow_add-s c = let h : c.args.t.start + c.args.t.length ≤ length c.args.text.now = search inside-room in omega arith

pub slice_bounds-fit_description-end : goal.slice_bounds-fit_description-end
slice_bounds-fit_description-end c = let h : c.args.t.start + c.args.t.length ≤ length c.args.text.now = search inside-room in omega arith

pub returns-then-n-eq0 : goal.returns-then-n-eq0
returns-then-n-eq0 c = search tag-empty

pub returns-then-is_inside : goal.returns-then-is_inside
returns-then-is_inside c = search tag-fit

pub returns-else-is_inside : goal.returns-else-is_inside
returns-else-is_inside c = search tag-outside

pub returns-else-fit_fields : goal.returns-else-fit_fields
returns-else-fit_fields c = search tag-unfit
