-- `sums::add_days` meets its contract. Assumes nothing.
use Prim.Native.Nat.{◌+◌, ◌≤◌}
use Rattle.sums.proofs.Sums.{days, passed-fits, passed_on}
use Rattle.day.proofs.Find.{line-less}
use Rattle.lines.proofs.Ends.{line-room}
use borrow.Author.Rules.{rules}
use lib.ListN.{length}
use native.Mathlib.Nat.{zero-add}
use native.Mathlib.Omega.{arith}
use Rattle.sums.proofs.add_days.Goals as goal

pub loop-start-init : goal.loop-start-init
loop-start-init c = (omega arith, omega arith, zero-add _)

pub returns-then-e-file : goal.returns-then-e-file
returns-then-e-file c = search days

pub returns-then-k-eq200 : goal.returns-then-k-eq200
returns-then-k-eq200 c = search days

pub overflow_add-at : goal.overflow_add-at
overflow_add-at c = let r : c.line_end-e.result + 2 ≤ length c.args.file.now = search line-room in omega arith

pub add_values-acc-requires : goal.add_values-acc-requires
add_values-acc-requires c = (search rules, search rules, search passed-fits)

pub loop-start-smaller-then-k-eq300 : goal.loop-start-smaller-then-k-eq300
loop-start-smaller-then-k-eq300 c = search line-less

pub loop-start-preserved-then-k-eq300 : goal.loop-start-preserved-then-k-eq300
loop-start-preserved-then-k-eq300 c = (search line-room, search passed_on, search days)

pub loop-start-smaller : goal.loop-start-smaller
loop-start-smaller c = search line-less

pub loop-start-preserved : goal.loop-start-preserved
loop-start-preserved c = (search line-room, omega arith, search days)
