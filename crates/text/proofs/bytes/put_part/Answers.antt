-- `text::bytes::put_part` meets its contract. Assumes nothing.
use Prim.Native.Nat.{◌+◌, ◌≤◌}
use Rattle.text.proofs.Texts.{inside-some}
use lib.ListN.{length}
use native.Mathlib.Omega.{arith}
use Rattle.text.proofs.bytes.put_part.Goals as goal

pub overflow_add-s : goal.overflow_add-s
overflow_add-s c = let h : c.args.s + c.args.n ≤ length c.args.text.now = search inside-some in omega arith

pub slice_bounds-put_bytes-end : goal.slice_bounds-put_bytes-end
slice_bounds-put_bytes-end c = let h : c.args.s + c.args.n ≤ length c.args.text.now = search inside-some in omega arith
