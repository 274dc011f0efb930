-- `checking::tour::check_and_note` meets its contract. Assumes nothing.
use Prim.Native.Nat.{◌+◌, ◌≤◌}
use lib.ListN.{length}
use native.Mathlib.Omega.{arith}
use borrow.Author.Rules.{rules}
use Rattle.walker.proofs.Handed.{handed-looked, handed-room}
use Rattle.order.proofs.Next.{stop-within}
use Rattle.checking.proofs.Walks.{too_long, touring-first, turned-2, turned-stop, turn-few, turn-less, turn-touring, ended-before, refused-answer, refused-day, refused-before, refused-channel}
use Rattle.checking.proofs.tour.check_and_note.Goals as goal

pub returns-then-file-gt1048576 : goal.returns-then-file-gt1048576
returns-then-file-gt1048576 c = record { is = search (refused-answer, too_long); day = search refused-day; before = search (refused-before, too_long); channel = search refused-channel }

pub loop-st-init : goal.loop-st-init
loop-st-init c = search touring-first

pub returns-in_default : goal.returns-in_default
returns-in_default c = record { is = search (refused-answer, turned-2); day = search refused-day; before = search (refused-before, turned-2); channel = search refused-channel }

pub step-step-requires : goal.step-step-requires
step-step-requires c = (search rules, search handed-looked)

pub overflow_add-at : goal.overflow_add-at
overflow_add-at c = let h : c.loop-st.t.at + c.in-Err.x.place ≤ c.in-Some.found.end = search stop-within in let r : c.in-Some.found.end + 2 ≤ length c.args.file.now = search handed-room in omega (arith, h, r, c.loop-st.invariant.short)

pub returns-in-Err : goal.returns-in-Err
returns-in-Err c = record {
  is = refused-answer _ _ _ _ _ c.refused-in-Err.ensures
      (turned-stop _ _ _ c.loop-st.st c.loop-st.t c.loop-st.invariant c.loop-st-test.true _ c.record_at-handed.ensures _ _ c.in-Some.is _ c.step-step.ensures.0 _ c.in-Err.is _
      c.place_of-in-Err.ensures);
  day = search refused-day;
  before = refused-before _ _ _ _ _ c.refused-in-Err.ensures
      (turned-stop _ _ _ c.loop-st.st c.loop-st.t c.loop-st.invariant c.loop-st-test.true _ c.record_at-handed.ensures _ _ c.in-Some.is _ c.step-step.ensures.0 _ c.in-Err.is _
      c.place_of-in-Err.ensures);
  channel = search refused-channel;
}

pub overflow_add-e : goal.overflow_add-e
overflow_add-e c = let r : c.in-Some.found.end + 2 ≤ length c.args.file.now = search handed-room in omega (arith, r, c.loop-st.invariant.short)

pub turn-t-requires : goal.turn-t-requires
turn-t-requires c = search turn-few

pub loop-st-smaller : goal.loop-st-smaller
loop-st-smaller c = turn-less _ _ _ c.loop-st.st c.loop-st.t c.loop-st.invariant c.loop-st-test.true _ c.record_at-handed.ensures _ _ c.in-Some.is _ c.in-Ok.s c.turn-t.ensures

pub loop-st-preserved : goal.loop-st-preserved
loop-st-preserved c =
    turn-touring _ _ _ c.loop-st.st c.loop-st.t c.loop-st.invariant c.loop-st-test.true _ c.record_at-handed.ensures _ _ c.in-Some.is _ c.step-step.ensures.0 c.step-step.ensures.1 _ c.in-Ok.is _
    c.turn-t.ensures

pub returns : goal.returns
returns c = record { is = search rules; day = search rules; before = search ended-before; channel = search rules }
