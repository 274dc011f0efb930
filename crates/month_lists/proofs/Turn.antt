-- The loop over the days of a call: what a day's turn is, and that it is the single call's. Assumes nothing.
use Prim.Native.Nat.{ℕ, suc, ◌+◌, ◌-◌, ◌≤◌, ◌<◌}
use mathlib.Core.Path.{◌≡◌, refl, sym, ap, ◌∙◌}
use mathlib.Core.List.{List, [], ◌∷◌}
use mathlib.Core.Bool.{true, ◌&&◌}
use Rattle.std.proofs.Common.{Option}
use native.Mathlib.Omega.{arith}
use lib.ListN.{length, take, drop, length-drop}
use lib.Seq.{drop-drop, take_at}
use Rattle.ground.proofs.Cases.{by}
use Rattle.ground.proofs.Tests.{and-true}
use Rattle.format.specs.Answers.{accepted}
use Rattle.format.specs.File.{check_of, IsAccepted}
use Rattle.format.specs.Day.{DayRows, days_of, over, over_five, room_for, read_into, read_of, values_of}
use Rattle.format.specs.declared.Tag.{Tag}
use Rattle.passing.specs.Sound.{is_sound, are_sound}
use Rattle.passing.proofs.Sound.{sound-values}
use Rattle.day.specs.Places.{DayAhead, located, Behind}
use Rattle.day.specs.declared.DayStart.{DayStart}
use Rattle.day.specs.declared.Place.{Place}
use Rattle.filling.proofs.Cases.{place-sound, next-noted}
use Rattle.months.specs.Month.{Lent, each_mark, up_to, behind, places_for, read, in_front, in_turn}
use Rattle.month_room.specs.Room.{fault_in}
use Rattle.month_room.proofs.Held.{long, placed}
use Rattle.month_lists.specs.Laid.{n_first, laid, laid_first, Reached, Fits}
use Rattle.month_lists.proofs.Lay.{day_lists, marks-many, laid-front, laid-behind, laid-reached, front-none, front-front, front-all}

-- ---- a single call that is accepted

-- the places of a day, over what stood there
only : (n : ℕ) (xs ws : List ℕ) → length xs ≡ n → take n (over xs ws) ≡ xs
only n xs ws e = take_at xs (drop (length xs) ws) n e

pub turn-read : (file ys : List ℕ) → check_of file ≡ accepted ys → (day m : ℕ) (d : DayRows) (ds : List DayRows) → drop day (days_of file) ≡ d ∷ ds
    → is_sound d.block ≡ true → (w : Lent) → room_for d.block.n w.values w.marks ≡ true → places_for 1 w.days ≡ true
    → in_turn file (suc m) day w ≡ in_front 1 d.block.n (day_lists d.block) (in_turn file m (day + 1) (behind d.block.n 1 w))
unfolding in_turn read_of read_into over_five day_lists
turn-read file ys ck day m d ds e s w r p =
    let b = d.block in
    let n = b.n in
    rw (
      ck,
      e,
      r,
      p,
      only n (values_of b) w.values (sound-values b s),
      only n _ w.marks.flags (marks-many b s (λ (t : Tag). t.flag)),
      only n _ w.marks.methods (marks-many b s (λ (t : Tag). t.method)),
      only n _ w.marks.reasons (marks-many b s (λ (t : Tag). t.reason)),
      only n _ w.marks.starts (marks-many b s (λ (t : Tag). t.start)),
      only n _ w.marks.lengths (marks-many b s (λ (t : Tag). t.length)),
    )

-- ---- the loop: w has i days with k intervals, w₀ is what was lent

pub record Goes (file : List ℕ) (first last : ℕ) (w₀ : Lent) (at : DayStart) (k i : ℕ) (w : Lent) : Type 0 where
  pub ahead : DayAhead file (first + i) at
  pub reached : Reached k i w
  pub room : fault_in (last + 1 - first - i) (drop (first + i) (days_of file)) (behind k i w) ≡ 0
  pub is : in_front i k (up_to k i w) (in_turn file (last + 1 - first - i) (first + i) (behind k i w)) ≡ in_turn file (last + 1 - first) first w₀

pub begins : (file : List ℕ) (first last : ℕ) (from : DayStart) (w : Lent) → Fits file first last from w → Goes file first last w from 0 0 w
begins file first last from w f =
    let z : first + 0 ≡ first = omega arith in
    let l : last + 1 - first - 0 ≡ last + 1 - first = omega arith in
    record {
      ahead = rw z f.ahead;
      reached =
          record {
            long =
                record {
                  values = omega arith;
                  marks = record { flags = omega arith; methods = omega arith; reasons = omega arith; starts = omega arith; lengths = omega arith };
                };
            daily = record { dates = omega arith; counts = omega arith; updates = omega arith; loads = omega arith; units = omega arith };
          };
      room = rw (z, l) f.room;
      is = rw (z, l) (front-none w (in_turn file (last + 1 - first) first w));
    }

-- there is a day, and it has its places
record HasFirst (m : ℕ) (all : List DayRows) (v : Lent) : Type 0 where
  day : DayRows
  others : List DayRows
  is : all ≡ day ∷ others
  room : room_for day.block.n v.values v.marks ≡ true
  place : places_for 1 v.days ≡ true
  rest : fault_in m others (behind day.block.n 1 v) ≡ 0

first-day : (m : ℕ) (all : List DayRows) (v : Lent) → fault_in (suc m) all v ≡ 0 → HasFirst m all v
unfolding fault_in
first-day m [] v h = absurd (omega arith)
first-day m (d ∷ ds) v h =
    by (room_for d.block.n v.values v.marks && places_for 1 v.days)
    (λ t.
    let a = and-true (room_for d.block.n v.values v.marks) (places_for 1 v.days) t in
    record { day = d; others = ds; is = refl; room = a.0; place = a.1; rest = rw t at h })
    (λ t. let f : 15 ≡ 0 = rw t at h in absurd (omega arith))

more : (k n : ℕ) (xs : List ℕ) → k ≤ length xs → n ≤ length (drop k xs) → k + n ≤ length xs
more k n xs h g = omega (arith, length-drop k xs)

module _ (file : List ℕ) (first last : ℕ) (w₀ : Lent) (at : DayStart) (k i : ℕ) (w : Lent) (o : first ≤ last) (oi : i ≤ last - first)
    (g : Goes file first last w₀ at k i w) where
  left-some : last + 1 - first - i ≡ suc (last - first - i)
  left-some = omega arith

  module _ (p : Option Place) (ep : located file p ≡ drop (first + i) (days_of file)) where
    found : HasFirst (last - first - i) (located file p) (behind k i w)
    found = first-day (last - first - i) (located file p) (behind k i w) (rw (left-some, ← ep) at g.room)

    reach : Reached (k + found.day.block.n) (i + 1) w
    reach =
        let n = found.day.block.n in
        let l = long n (drop k w.values) (each_mark (drop k) w.marks) found.room in
        let q = placed 1 (behind k i w).days found.place in
        let r = g.reached in
        record {
          long =
              record {
                values = more k n w.values r.long.values l.values;
                marks =
                    record {
                      flags = more k n w.marks.flags r.long.marks.flags l.marks.flags;
                      methods = more k n w.marks.methods r.long.marks.methods l.marks.methods;
                      reasons = more k n w.marks.reasons r.long.marks.reasons l.marks.reasons;
                      starts = more k n w.marks.starts r.long.marks.starts l.marks.starts;
                      lengths = more k n w.marks.lengths r.long.marks.lengths l.marks.lengths;
                    };
              };
          daily =
              record {
                dates = more i 1 w.days.dates r.daily.dates q.dates;
                counts = more i 1 w.days.counts r.daily.counts q.counts;
                updates = more i 1 w.days.updates r.daily.updates q.updates;
                loads = more i 1 w.days.loads r.daily.loads q.loads;
                units = more i 1 w.days.units r.daily.units q.units;
              };
        }

    pub ready : Reached (k + n_first (located file p)) (i + 1) w
    ready = rw found.is reach

    module _ (ac : IsAccepted file) (next : DayStart) (b : Behind file p next) where
      sound : is_sound found.day.block ≡ true
      sound = let a : are_sound (found.day ∷ found.others) ≡ true = rw found.is at (place-sound file (first + i) p ep ac) in (and-true (is_sound found.day.block) _ a).0

      behind-it : drop (first + i + 1) (days_of file) ≡ found.others
      behind-it = sym (drop-drop 1 (first + i) (days_of file)) ∙ ap (drop 1) (sym ep ∙ found.is)

      there : Goes file first last w₀ next (k + found.day.block.n) (i + 1) (laid found.day.block k i w)
      there =
          let d = found.day.block in
          let e₁ : first + (i + 1) ≡ first + i + 1 = omega arith in
          let e₂ : last + 1 - first - (i + 1) ≡ last - first - i = omega arith in
          record {
            ahead = rw e₁ (next-noted file (first + i) p ep next b);
            reached = laid-reached d sound k i w reach;
            room = rw (e₁, e₂, behind-it, ← laid-behind d sound k i w reach) found.rest;
            is =
                rw (e₁, e₂, ← laid-behind d sound k i w reach, ← laid-front d sound k i w reach)
                (sym (front-front i 1 k d.n (up_to k i w) (day_lists d) (in_turn file (last - first - i) (first + i + 1) (behind d.n 1 (behind k i w))))
                ∙ ap (in_front i k (up_to k i w)) (sym (turn-read file _ ac.1 (first + i) (last - first - i) found.day found.others (sym ep ∙ found.is) sound (behind k i w) found.room found.place))
                ∙ (rw left-some at g.is));
          }

      pub goes_on_lem : (n : ℕ) (w₁ : Lent) → n ≡ n_first (located file p) → w₁ ≡ laid_first (located file p) k i w → Goes file first last w₀ next (k + n) (i + 1) w₁
      goes_on_lem n w₁ en ew = rw (en ∙ ap n_first found.is, ew ∙ ap (λ (l : List DayRows). laid_first l k i w) found.is) there

pub ends : (file : List ℕ) (first last : ℕ) (w₀ : Lent) (at : DayStart) (k i : ℕ) (w : Lent) → first ≤ last → i ≤ last - first + 1 → last - first < i
    → Goes file first last w₀ at k i w → read i k w ≡ in_turn file (last + 1 - first) first w₀
unfolding in_turn
ends file first last w₀ at k i w o most l g =
    let e : last + 1 - first - i ≡ 0 = omega arith in
    sym (front-all i k w) ∙ (rw e at g.is)
