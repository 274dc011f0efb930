-- `day::walk::find_day` meets its contract. Assumes nothing.
use Prim.Native.Nat.{◌+◌, ◌≤◌}
use Rattle.day.proofs.Find.{finds, line-less, heads-here}
use Rattle.lines.proofs.Ends.{line-room}
use borrow.Author.Rules.{rules}
use lib.ListN.{length}
use native.Mathlib.Omega.{arith}
use Rattle.day.proofs.walk.find_day.Goals as goal

pub returns-then-e-file : goal.returns-then-e-file
returns-then-e-file c = record { is = search finds; inside = search rules }

pub overflow_add-at : goal.overflow_add-at
overflow_add-at c = let r : c.scan-s.result.end + 2 ≤ length c.args.file.now = search line-room in omega arith

pub returns-then-left-eq0 : goal.returns-then-left-eq0
returns-then-left-eq0 c = record { is = search finds; inside = (search rules, search line-room, search rules, search rules) }

pub overflow_sub-left : goal.overflow_sub-left
overflow_sub-left c = omega arith

pub loop-under-smaller-then-k-eq300 : goal.loop-under-smaller-then-k-eq300
loop-under-smaller-then-k-eq300 c = search line-less

pub loop-under-preserved-then-k-eq300 : goal.loop-under-preserved-then-k-eq300
loop-under-preserved-then-k-eq300 c = (search line-room, search rules, search finds)

pub loop-under-smaller-then-k-eq200 : goal.loop-under-smaller-then-k-eq200
loop-under-smaller-then-k-eq200 c = search line-less

pub loop-under-preserved-then-k-eq200 : goal.loop-under-preserved-then-k-eq200
loop-under-preserved-then-k-eq200 c = (search line-room, search heads-here, search finds)

pub loop-under-smaller : goal.loop-under-smaller
loop-under-smaller c = search line-less

pub loop-under-preserved : goal.loop-under-preserved
loop-under-preserved c = (search line-room, search rules, search finds)
