-- Days that are read: each is its single call. Assumes nothing.
use Prim.Native.Nat.{ℕ, suc, ◌+◌, ◌≤◌}
use mathlib.Core.Path.{◌≡◌, sym, ap, ◌∙◌}
use mathlib.Core.List.{List, ◌++◌, map, append-nil}
use mathlib.Core.Bool.{true}
use native.Mathlib.Numerals.{one-add}
use native.Mathlib.Omega.{arith}
use lib.ListN.{length, take, drop}
use lib.Seq.{drop-drop, take_at, drop-append-add, length-take-le, drop-length}
use lib.Dec.{leb}
use borrow.Author.Tests.{le-leb}
use Rattle.format.specs.Answers.{accepted}
use Rattle.format.specs.Day.{BlockRows, Five, over, over_five, outcome, enough_for, room_for, read_into, values_of, tags_of}
use Rattle.format.specs.declared.Tag.{Tag}
use Rattle.passing.specs.Sound.{is_sound}
use Rattle.passing.proofs.Sound.{sound-values}
use Rattle.months.specs.Month.{Lent, each_mark, behind, joined}
use Rattle.month_room.specs.Room.{Long}
use Rattle.month_lists.proofs.Lay.{day_lists, marks-many}
use Rattle.singles.specs.Singles.{stretch, answer_at, is_single}

-- ---- one list, whose first n places are a day's

module _ (n : ℕ) (xs ys : List ℕ) (e : length xs ≡ n) where
  own : xs ≡ stretch 0 n (xs ++ ys)
  own = sym (take_at xs ys n e)

  others : (k m : ℕ) → stretch k m ys ≡ stretch (n + k) m (xs ++ ys)
  others k m = rw (← e) (ap (take m) (sym (drop-append-add xs ys k)))

  rest-one : (k : ℕ) → drop k ys ≡ drop (n + k) (xs ++ ys)
  rest-one k = rw (← e) (sym (drop-append-add xs ys k))

-- a day that fills all the places that it is lent
over-all : (n : ℕ) (xs ws : List ℕ) → length xs ≡ n → n ≤ length ws → over xs (stretch 0 n ws) ≡ xs
over-all n xs ws e h =
    let l : length (stretch 0 n ws) ≡ length xs = length-take-le n ws h ∙ sym e in
    rw (← l, drop-length (stretch 0 n ws)) (append-nil xs)

place-one : (n : ℕ) (ws : List ℕ) → n ≤ length ws → leb n (length (stretch 0 n ws)) ≡ true
place-one n ws h = le-leb n (length (stretch 0 n ws)) (omega (arith, length-take-le n ws h))

pub place-all : (n : ℕ) (vs : List ℕ) (ms : Five) → Long n vs ms → room_for n (stretch 0 n vs) (each_mark (stretch 0 n) ms) ≡ true
unfolding enough_for
place-all n vs ms l =
    rw (
      place-one n vs l.values,
      place-one n ms.flags l.marks.flags,
      place-one n ms.methods l.marks.methods,
      place-one n ms.reasons l.marks.reasons,
      place-one n ms.starts l.marks.starts,
      place-one n ms.lengths l.marks.lengths,
    )

-- ---- the first day of some, and those behind it

module _ (d : BlockRows) (s : is_sound d ≡ true) where
  module _ (v : Lent) where
    pub first-is : (vs : List ℕ) (ms : Five) → Long d.n vs ms
        → read_into d (stretch 0 d.n vs) (each_mark (stretch 0 d.n) ms)
        ≡ outcome (accepted (answer_at 0 (joined (day_lists d) v).days)) (stretch 0 d.n (joined (day_lists d) v).values) (each_mark (stretch 0 d.n) (joined (day_lists d) v).marks)
    unfolding read_into over_five day_lists
    first-is vs ms l =
        let m = marks-many d s in
        rw (
          over-all d.n (values_of d) vs (sound-values d s) l.values,
          over-all d.n _ ms.flags (m (λ (t : Tag). t.flag)) l.marks.flags,
          over-all d.n _ ms.methods (m (λ (t : Tag). t.method)) l.marks.methods,
          over-all d.n _ ms.reasons (m (λ (t : Tag). t.reason)) l.marks.reasons,
          over-all d.n _ ms.starts (m (λ (t : Tag). t.start)) l.marks.starts,
          over-all d.n _ ms.lengths (m (λ (t : Tag). t.length)) l.marks.lengths,
          ← own d.n (values_of d) v.values (sound-values d s),
          ← own d.n _ v.marks.flags (m (λ (t : Tag). t.flag)),
          ← own d.n _ v.marks.methods (m (λ (t : Tag). t.method)),
          ← own d.n _ v.marks.reasons (m (λ (t : Tag). t.reason)),
          ← own d.n _ v.marks.starts (m (λ (t : Tag). t.start)),
          ← own d.n _ v.marks.lengths (m (λ (t : Tag). t.length)),
        )

    pub others-are : (file : List ℕ) (day j k m : ℕ) (w : Lent) → is_single file day j k m (behind d.n 1 w) v → is_single file day (suc j) (d.n + k) m w (joined (day_lists d) v)
    unfolding day_lists
    others-are file day j k m w q =
        let g = marks-many d s in
        rw (
          ← drop-drop k d.n w.values,
          ← drop-drop k d.n w.marks.flags,
          ← drop-drop k d.n w.marks.methods,
          ← drop-drop k d.n w.marks.reasons,
          ← drop-drop k d.n w.marks.starts,
          ← drop-drop k d.n w.marks.lengths,
          ← others d.n (values_of d) v.values (sound-values d s) k m,
          ← others d.n _ v.marks.flags (g (λ (t : Tag). t.flag)) k m,
          ← others d.n _ v.marks.methods (g (λ (t : Tag). t.method)) k m,
          ← others d.n _ v.marks.reasons (g (λ (t : Tag). t.reason)) k m,
          ← others d.n _ v.marks.starts (g (λ (t : Tag). t.start)) k m,
          ← others d.n _ v.marks.lengths (g (λ (t : Tag). t.length)) k m,
        )
        q

    pub rest-kept : (k i : ℕ) → behind k i v ≡ behind (d.n + k) (1 + i) (joined (day_lists d) v)
    unfolding day_lists
    rest-kept k i =
        let g = marks-many d s in
        rw (
          rest-one d.n (values_of d) v.values (sound-values d s) k,
          rest-one d.n (map (λ (t : Tag). t.flag) (tags_of d)) v.marks.flags (g (λ (t : Tag). t.flag)) k,
          rest-one d.n (map (λ (t : Tag). t.method) (tags_of d)) v.marks.methods (g (λ (t : Tag). t.method)) k,
          rest-one d.n (map (λ (t : Tag). t.reason) (tags_of d)) v.marks.reasons (g (λ (t : Tag). t.reason)) k,
          rest-one d.n (map (λ (t : Tag). t.start) (tags_of d)) v.marks.starts (g (λ (t : Tag). t.start)) k,
          rest-one d.n (map (λ (t : Tag). t.length) (tags_of d)) v.marks.lengths (g (λ (t : Tag). t.length)) k,
          one-add i,
        )

-- what lies behind the first day and behind others
pub behind-behind : (n k i : ℕ) (w : Lent) → behind k i (behind n 1 w) ≡ behind (n + k) (1 + i) w
behind-behind n k i w =
    rw (
      drop-drop k n w.values,
      drop-drop k n w.marks.flags,
      drop-drop k n w.marks.methods,
      drop-drop k n w.marks.reasons,
      drop-drop k n w.marks.starts,
      drop-drop k n w.marks.lengths,
      drop-drop i 1 w.days.dates,
      drop-drop i 1 w.days.counts,
      drop-drop i 1 w.days.updates,
      drop-drop i 1 w.days.loads,
      drop-drop i 1 w.days.units,
    )
