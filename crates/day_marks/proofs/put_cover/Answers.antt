-- `day_marks::put_cover` meets its contract. Assumes nothing.
use Prim.Native.Nat.{◌+◌, ◌≤◌}
use Rattle.day_marks.proofs.Marks.{turn-order, turn-less, turn-most, turn-room, turn-left, turn-roomy, turn_on, cover-end}
use Rattle.lists.proofs.Laws.{even-self, even-stored}
use borrow.Author.Rules.{rules}
use lib.ListN.{length}
use mathlib.Core.Path.{refl}
use native.Mathlib.Omega.{arith}
use Rattle.day_marks.proofs.put_cover.Goals as goal

pub loop-k-init : goal.loop-k-init
loop-k-init c = (omega arith, omega arith, even-self _, search rules, refl)

pub overflow_add-at : goal.overflow_add-at
overflow_add-at c = let r : c.line_end-e.result + 2 ≤ length c.args.file.now = search turn-room in omega arith

pub put_tag-requires : goal.put_tag-requires
put_tag-requires c = (search turn-order, search turn-roomy)

pub loop-k-smaller : goal.loop-k-smaller
loop-k-smaller c = search turn-less

pub loop-k-preserved : goal.loop-k-preserved
loop-k-preserved c = (search turn-room, search turn-most, search even-stored, search turn-left, search turn_on)

pub returns : goal.returns
returns c = search cover-end
