-- `day::walk::behind` meets its contract. Assumes nothing.
use Prim.Native.Nat.{◌+◌, ◌≤◌}
use lib.ListN.{length}
use Rattle.day.proofs.Find.{room-behind, no-heads, behind-day, behind-none}
use native.Mathlib.Omega.{arith}
use Rattle.day.proofs.walk.behind.Goals as goal

pub overflow_add-result : goal.overflow_add-result
overflow_add-result c = let r : c.in-Some.found.end + 2 ≤ length c.args.file.now = search room-behind in omega arith

pub returns-in-Some : goal.returns-in-Some
returns-in-Some c = search behind-day

pub returns-in-None : goal.returns-in-None
returns-in-None c = search (behind-none, no-heads)
