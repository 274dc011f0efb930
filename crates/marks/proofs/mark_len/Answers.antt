-- `marks::mark_len` meets its contract. Assumes nothing.
use Prim.Native.Nat.{◌≤◌}
use Rattle.marks.proofs.OneMark.{fit-short, mark-length}
use lib.ListN.{length}
use native.Mathlib.Omega.{arith}
use Rattle.marks.proofs.mark_len.Goals as goal

pub overflow_add-result-2 : goal.overflow_add-result-2
overflow_add-result-2 c = let h : c.args.t.length ≤ 240 = search fit-short in omega arith

pub overflow_add-result-3 : goal.overflow_add-result-3
overflow_add-result-3 c = let h : c.args.t.length ≤ 240 = search fit-short in omega arith

pub returns : goal.returns
returns c = let h : c.args.t.length ≤ 240 = search fit-short in (search mark-length, omega arith)
