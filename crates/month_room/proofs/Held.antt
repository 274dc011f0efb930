-- What the days of a call are refused with, by the lists and by their lengths. Assumes nothing.
use Prim.Native.Nat.{ℕ, zero, suc, ◌+◌, ◌-◌, ◌≤◌}
use mathlib.Core.Path.{◌≡◌, refl, ◌∙◌}
use mathlib.Core.List.{List, [], ◌∷◌}
use mathlib.Core.Bool.{true, ◌&&◌}
use native.Mathlib.Omega.{arith}
use lib.ListN.{length, drop, length-drop}
use lib.Dec.{leb}
use borrow.Author.Tests.{le-leb, lt-leb, leb-true}
use Rattle.ground.proofs.Cases.{split, by}
use Rattle.ground.proofs.Tests.{and-true}
use Rattle.format.specs.Day.{Five, DayRows, enough_for, room_for}
use Rattle.months.specs.Month.{Daily, Lent, each_mark, each_daily, behind, places_for}
use Rattle.month_room.specs.Room.{Long, Placed, fault_of, fault_in, Holds}

-- places behind n of a list that has them
leb-behind : (j n : ℕ) (xs : List ℕ) → n ≤ length xs → leb j (length (drop n xs)) ≡ leb (n + j) (length xs)
leb-behind j n xs h =
    split (n + j) (length xs)
    (λ l. rw (length-drop n xs, le-leb j (length xs - n) (omega arith), le-leb (n + j) (length xs) l))
    (λ l. rw (length-drop n xs, lt-leb j (length xs - n) (omega arith), lt-leb (n + j) (length xs) l))

leb-less : (j n room : ℕ) → n ≤ room → leb (n + j) room ≡ leb j (room - n)
leb-less j n room h =
    split (n + j) room
    (λ l. rw (le-leb (n + j) room l, le-leb j (room - n) (omega arith)))
    (λ l. rw (lt-leb (n + j) room l, lt-leb j (room - n) (omega arith)))

-- ---- six lists with n places

pub long : (n : ℕ) (vs : List ℕ) (ms : Five) → room_for n vs ms ≡ true → Long n vs ms
unfolding enough_for
long n vs ms h =
    let t₅ = and-true _ _ h in
    let t₄ = and-true _ _ t₅.0 in
    let t₃ = and-true _ _ t₄.0 in
    let t₂ = and-true _ _ t₃.0 in
    let t₁ = and-true _ _ t₂.0 in
    record {
      values = leb-true _ _ t₁.0;
      marks =
          record {
            flags = leb-true _ _ t₁.1;
            methods = leb-true _ _ t₂.1;
            reasons = leb-true _ _ t₃.1;
            starts = leb-true _ _ t₄.1;
            lengths = leb-true _ _ t₅.1;
          };
    }

room-behind : (j n : ℕ) (vs : List ℕ) (ms : Five) → Long n vs ms → room_for j (drop n vs) (each_mark (drop n) ms) ≡ room_for (n + j) vs ms
unfolding enough_for
room-behind j n vs ms l =
    rw (
      leb-behind j n vs l.values,
      leb-behind j n ms.flags l.marks.flags,
      leb-behind j n ms.methods l.marks.methods,
      leb-behind j n ms.reasons l.marks.reasons,
      leb-behind j n ms.starts l.marks.starts,
      leb-behind j n ms.lengths l.marks.lengths,
    )

-- ---- five with i

pub placed : (i : ℕ) (ds : Daily) → places_for i ds ≡ true → Placed i ds
unfolding places_for
placed i ds h =
    let t₄ = and-true _ _ h in
    let t₃ = and-true _ _ t₄.0 in
    let t₂ = and-true _ _ t₃.0 in
    let t₁ = and-true _ _ t₂.0 in
    record { dates = leb-true _ _ t₁.0; counts = leb-true _ _ t₁.1; updates = leb-true _ _ t₂.1; loads = leb-true _ _ t₃.1; units = leb-true _ _ t₄.1 }

places_behind : (j i : ℕ) (ds : Daily) → Placed i ds → places_for j (each_daily (drop i) ds) ≡ places_for (i + j) ds
unfolding places_for
places_behind j i ds p =
    rw (
      leb-behind j i ds.dates p.dates,
      leb-behind j i ds.counts p.counts,
      leb-behind j i ds.updates p.updates,
      leb-behind j i ds.loads p.loads,
      leb-behind j i ds.units p.units,
    )

-- ---- the call

behind-holds : (n room places : ℕ) (w : Lent) → Holds w room places → leb n room ≡ true → leb 1 places ≡ true → Holds (behind n 1 w) (room - n) (places - 1)
behind-holds n room places w h l p =
    record {
      long = λ j. room-behind j n w.values w.marks (long n w.values w.marks (h.long n ∙ l)) ∙ h.long (n + j) ∙ leb-less j n room (leb-true n room l);
      daily = λ j. places_behind j 1 w.days (placed 1 w.days (h.daily 1 ∙ p)) ∙ h.daily (1 + j) ∙ leb-less j 1 places (leb-true 1 places p);
    }

pub fault-held : (m : ℕ) (ds : List DayRows) (w : Lent) (room places : ℕ) → Holds w room places → fault_in m ds w ≡ fault_of m ds room places
unfolding fault_in fault_of
fault-held zero ds w room places h = refl
fault-held (suc m) [] w room places h = refl
fault-held (suc m) (d ∷ ds) w room places h =
    let n = d.block.n in
    by (leb n room && leb 1 places)
    (λ t.
    let a = and-true (leb n room) (leb 1 places) t in
    rw (h.long n, h.daily 1, t) (fault-held m ds (behind n 1 w) (room - n) (places - 1) (behind-holds n room places w h a.0 a.1)))
    (λ t. rw (h.long n, h.daily 1, t))
