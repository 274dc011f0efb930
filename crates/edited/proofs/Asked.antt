-- A replacing that is accepted, taken apart: every test on its way passed, and the room that it leaves begins with the edited file. Assumes nothing.
use Prim.Native.Nat.{ℕ, ◌≤◌}
use mathlib.Core.Path.{◌≡◌, refl, sym, ap, ap₂}
use mathlib.Core.List.{List, [], ◌∷◌}
use lib.ListN.{length, take, drop}
use lib.Seq.{take-append_seam, drop-append_seam}
use lib.Dec.{ltb, eqb}
use borrow.Author.Tests.{ltb-false, eqb-true, eq-eqb, le-ltb}
use Rattle.ground.proofs.Cases.{by}
use Rattle.format.specs.Cut.{lines}
use Rattle.format.specs.Records.{date_in}
use Rattle.format.specs.Answers.{Answer, accepted, refused}
use Rattle.format.specs.File.{most, check_of, block_check_of}
use Rattle.format.specs.Day.{DayRows, days_of, over}
use Rattle.passing.specs.Passes.{top_date}
use Rattle.passing.proofs.Walk.{not-accepted}
use Rattle.whose.specs.Whose.{whose_is}
use Rattle.replacing.specs.Replace.{Left, left, or_refused, edited_at, put_of, same_date, replace_first, replace_in, replace_of}
use Rattle.edited.specs.Edited.{Replaces}

pub record Asked (file room : List ℕ) (day : ℕ) (block : List ℕ) (m : ℕ) (room' : List ℕ) : Type 0 where
  pub answer : List ℕ
  pub check : check_of file ≡ accepted answer
  pub rows : DayRows
  pub others : List DayRows
  pub at : drop day (days_of file) ≡ rows ∷ others
  pub numbers : List ℕ
  pub block-check : block_check_of (whose_is file rows).minutes (whose_is file rows).unit block ≡ accepted numbers
  pub date : top_date (lines block) ≡ date_in rows.block.top.cells
  pub short : length (edited_at file rows block) ≤ most
  pub fits : length (edited_at file rows block) ≤ length room
  pub size : m ≡ length (edited_at file rows block)
  pub leaves : room' ≡ over (edited_at file rows block) room

-- a room that is left with a refusal
refused-left : {A : Type 0} (x p k i : ℕ) (room : List ℕ) (xs : List ℕ) (room' : List ℕ) → left (refused x p k i) room ≡ left (accepted xs) room' → A
refused-left x p k i room xs room' e = not-accepted x p k i xs (ap (λ (l : Left). l.answer) e)

or-accepted : (a : Answer) (room : List ℕ) (l : Left) (xs room' : List ℕ) → or_refused a room l ≡ left (accepted xs) room' → (ys : List ℕ) × (a ≡ accepted ys) × (l ≡ left (accepted xs) room')
or-accepted (accepted ys) room l xs room' e = (ys, refl, e)
or-accepted (refused x p k i) room l xs room' e = refused-left x p k i room xs room' e

same-date : (d : DayRows) (block xs : List ℕ) → same_date d block ≡ accepted xs → top_date (lines block) ≡ date_in d.block.top.cells
unfolding same_date
same-date d block xs e =
    by (eqb (top_date (lines block)) (date_in d.block.top.cells))
    (λ t. eqb-true _ _ t)
    (λ t. not-accepted 8 4 0 2 xs (rw t at e))

put : (file room : List ℕ) (m : ℕ) (room' : List ℕ) → put_of file room ≡ left (accepted (m ∷ [])) room' → (length file ≤ most) × (length file ≤ length room) × (m ≡ length file) × (room' ≡ over file room)
unfolding put_of
put file room m room' e =
    by (ltb most (length file))
    (λ t. refused-left 1 0 0 0 room (m ∷ []) room' (rw t at e))
    (λ t. by (ltb (length room) (length file))
    (λ s. refused-left 15 0 0 0 room (m ∷ []) room' (rw (t, s) at e))
    (λ s.
    let q : left (accepted (length file ∷ [])) (over file room) ≡ left (accepted (m ∷ [])) room' = rw (t, s) at e in
    let i : accepted (length file ∷ []) ≡ accepted (m ∷ []) = ap (λ (l : Left). l.answer) q in
    let j : m ≡ length file = cc in
    (ltb-false _ _ t, ltb-false _ _ s, j, sym (ap (λ (l : Left). l.room) q))))

asked-first : (file xs : List ℕ) (day : ℕ) (block room : List ℕ) (m : ℕ) (room' : List ℕ) (ds : List DayRows) → check_of file ≡ accepted xs → drop day (days_of file) ≡ ds
    → replace_first file ds block room ≡ left (accepted (m ∷ [])) room' → Asked file room day block m room'
asked-first file xs day block room m room' [] c q e = refused-left 14 0 0 0 room (m ∷ []) room' e
asked-first file xs day block room m room' (d ∷ ds) c q e =
    let new : List ℕ = edited_at file d block in
    let a = or-accepted (block_check_of (whose_is file d).minutes (whose_is file d).unit block) room (or_refused (same_date d block) room (put_of new room)) (m ∷ []) room' e in
    let b = or-accepted (same_date d block) room (put_of new room) (m ∷ []) room' a.2 in
    let w = put new room m room' b.2 in
    record {
      answer = xs;
      check = c;
      rows = d;
      others = ds;
      at = q;
      numbers = a.0;
      block-check = a.1;
      date = same-date d block b.0 b.1;
      short = w.0;
      fits = w.1;
      size = w.2;
      leaves = w.3;
    }

pub asked : (room : List ℕ) (n day : ℕ) (block : List ℕ) (m : ℕ) (room' : List ℕ) → Replaces room n day block m room' → (n ≤ length room) × Asked (take n room) room day block m room'
unfolding replace_of replace_in
asked room n day block m room' e =
    by (ltb (length room) n)
    (λ t. refused-left 15 0 0 0 room (m ∷ []) room' (rw t at e))
    (λ t.
    let file : List ℕ = take n room in
    let q : or_refused (check_of file) room (replace_first file (drop day (days_of file)) block room) ≡ left (accepted (m ∷ [])) room' = rw t at e in
    let a = or-accepted (check_of file) room (replace_first file (drop day (days_of file)) block room) (m ∷ []) room' q in
    (ltb-false _ _ t, asked-first file a.0 day block room m room' (drop day (days_of file)) a.1 refl a.2))

-- and where every test passes, it is accepted
pub asked-replaces : (room : List ℕ) (n day : ℕ) (block : List ℕ) (m : ℕ) (room' : List ℕ) → n ≤ length room → Asked (take n room) room day block m room'
    → Replaces room n day block m room'
unfolding replace_of replace_in same_date put_of
asked-replaces room n day block m room' l w =
    let new : List ℕ = edited_at (take n room) w.rows block in
    rw (le-ltb (length room) n l, w.check, w.at, w.block-check, eq-eqb _ _ w.date, le-ltb most (length new) w.short, le-ltb (length room) (length new) w.fits)
    (ap₂ left (ap (λ (i : ℕ). accepted (i ∷ [])) (sym w.size)) (sym w.leaves))

-- the room that is left: the edited file, and then what was there
module _ (file room : List ℕ) (day : ℕ) (block : List ℕ) (m : ℕ) (room' : List ℕ) (w : Asked file room day block m room') where
  pub edited-is : take m room' ≡ edited_at file w.rows block
  edited-is = rw (w.size, w.leaves) (take-append_seam (edited_at file w.rows block) (drop (length (edited_at file w.rows block)) room))

  pub behind-is : drop m room' ≡ drop m room
  behind-is = rw (w.size, w.leaves) (drop-append_seam (edited_at file w.rows block) (drop (length (edited_at file w.rows block)) room))
