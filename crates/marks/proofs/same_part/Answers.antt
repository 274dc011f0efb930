-- `marks::same_part` meets its contract. Assumes nothing.
use Prim.Native.Nat.{◌+◌, ◌≤◌}
use Rattle.marks.proofs.OneMark.{parts-differ, parts-empty, parts_same, part_room}
use Rattle.text.proofs.Texts.{inside-some}
use lib.ListN.{length}
use native.Mathlib.Omega.{arith}
use Rattle.marks.proofs.same_part.Goals as goal

pub overflow_add-s : goal.overflow_add-s
overflow_add-s c = let h : c.args.s + c.args.n ≤ length c.args.text.now = search inside-some in omega arith

pub slice_bounds-same_bytes-end : goal.slice_bounds-same_bytes-end
slice_bounds-same_bytes-end c = let h : c.args.s + c.args.n ≤ length c.args.text.now = search inside-some in omega arith

pub overflow_add-t : goal.overflow_add-t
overflow_add-t c = let g : c.args.t + c.args.m ≤ length c.args.text.now = search part_room in omega arith

pub slice_bounds-same_bytes-end-else-n-eq0 : goal.slice_bounds-same_bytes-end-else-n-eq0
slice_bounds-same_bytes-end-else-n-eq0 c = let g : c.args.t + c.args.m ≤ length c.args.text.now = search part_room in omega arith

pub returns-then-n-eq0 : goal.returns-then-n-eq0
returns-then-n-eq0 c = search parts-empty

pub returns-else-n-eq0 : goal.returns-else-n-eq0
returns-else-n-eq0 c = search parts_same

pub returns-else-n-m : goal.returns-else-n-m
returns-else-n-m c = search parts-differ
