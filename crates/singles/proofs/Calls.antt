-- A call for several days is the single calls in order. Assumes nothing.
use Prim.Native.Nat.{ℕ, zero, suc, ◌+◌, ◌-◌, ◌<◌}
use mathlib.Core.Path.{◌≡◌, refl, sym, ap, ◌∙◌}
use mathlib.Core.List.{List, [], ◌∷◌, map}
use mathlib.Core.Bool.{true, false, ◌&&◌}
use native.Mathlib.Numerals.{one-add}
use native.Mathlib.Omega.{arith}
use lib.ListN.{take, drop, get_or}
use lib.Seq.{drop-drop}
use Rattle.ground.specs.Lists.{sum}
use Rattle.ground.proofs.Cases.{by}
use Rattle.ground.proofs.Tests.{and-true}
use Rattle.format.specs.Answers.{Answer, accepted, refused, refusal}
use Rattle.format.specs.File.{check_of, IsAccepted}
use Rattle.format.specs.Day.{DayRows, days_of, room_for, read_into, read_of}
use Rattle.passing.specs.Sound.{is_sound, are_sound}
use Rattle.passing.proofs.Days.{checked-days}
use Rattle.filling.proofs.Cases.{are_sound-drop}
use Rattle.months.specs.Month.{Lent, behind, joined, places_for, Turns, read, stopped, in_front, in_turn, wholly, days_left, month_of}
use Rattle.month_room.proofs.Held.{long}
use Rattle.month_lists.specs.Laid.{answer_of}
use Rattle.month_lists.proofs.Lay.{day_lists}
use Rattle.month_lists.proofs.Turn.{turn-read}
use Rattle.month_lists.proofs.Stops.{stops-14, stops-15}
use Rattle.singles.specs.Singles.{start_of, is_single, ReadSingly, single_answer, left_for, Passes, RefusedSingly, AsSingleCalls}
use Rattle.singles.proofs.Each.{place-all, first-is, others-are, rest-kept, behind-behind}

-- some days in turn, said by the single calls
abbrev turns_singly : List ℕ → ℕ → ℕ → Lent → Turns → Type 0
turns_singly file day m w (read d k v) = ReadSingly file day m w d k v
turns_singly file day m w (stopped (refused x p k i)) = RefusedSingly file day m w (refused x p k i)
turns_singly file day m w (stopped (accepted xs)) = ⊥

module _ (file ys : List ℕ) (ck : check_of file ≡ accepted ys) where
  -- ---- a day that has its places, before others

  module _ (day m : ℕ) (w : Lent) (d : DayRows) (ds : List DayRows) (e : drop day (days_of file) ≡ d ∷ ds) (s : is_sound d.block ≡ true)
      (r : room_for d.block.n w.values w.marks ≡ true) (p : places_for 1 w.days ≡ true) where
    single : (v : Lent) → is_single file day 0 0 d.block.n w (joined (day_lists d.block) v)
    unfolding read_of
    single v =
        let l = long d.block.n w.values w.marks r in
        rw (ck, e, place-all d.block.n w.values w.marks l) (first-is d.block s v w.values w.marks l)

    passes : Passes (single_answer file (day + 0) (left_for file day 0 w))
    unfolding single_answer left_for read_of read_into
    passes = let z : day + 0 ≡ day = omega arith in (answer_of d.block, rw (z, ck, e, r, p))

    left_behind : (j : ℕ) → left_for file (day + 1) j (behind d.block.n 1 w) ≡ left_for file day (suc j) w
    unfolding left_for
    left_behind j =
        let q : drop (day + 1) (days_of file) ≡ ds = sym (drop-drop 1 day (days_of file)) ∙ ap (drop 1) e in
        rw (q, e, ← one-add j) (behind-behind d.block.n (sum (map (λ (x : DayRows). x.block.n) (take j ds))) j w)

    each-is : (n k : ℕ) (v : Lent) → ReadSingly file (day + 1) m (behind d.block.n 1 w) n k v → (j : ℕ) → j < 1 + n
        → is_single file (day + j) j (start_of j (joined (day_lists d.block) v).days) (get_or (joined (day_lists d.block) v).days.counts j 0) w (joined (day_lists d.block) v)
    unfolding day_lists
    each-is n k v g zero h = let z : day + 0 ≡ day = omega arith in rw z (single v)
    each-is n k v g (suc j) h =
        let z : day + suc j ≡ day + 1 + j = omega arith in
        rw z (others-are d.block s v file (day + 1 + j) j (start_of j v.days) (get_or v.days.counts j 0) w (g.each j (omega arith)))

    many-are : (n k : ℕ) (v : Lent) → k ≡ start_of n v.days → d.block.n + k ≡ start_of (1 + n) (joined (day_lists d.block) v).days
    unfolding day_lists
    many-are n k v q = rw (one-add n, q)

    lower-are : (a : Answer) (g : RefusedSingly file (day + 1) m (behind d.block.n 1 w) a) (j : ℕ) → j < suc g.day
        → Passes (single_answer file (day + j) (left_for file day j w))
    lower-are a g zero h = passes
    lower-are a g (suc j) h = let z : day + suc j ≡ day + 1 + j = omega arith in rw (z, ← left_behind j) (g.lower j (omega arith))

    step : (t : Turns) → turns_singly file (day + 1) m (behind d.block.n 1 w) t → turns_singly file day (suc m) w (in_front 1 d.block.n (day_lists d.block) t)
    step (read n k v) g =
        record {
          all = omega (arith, g.all);
          each = each-is n k v g;
          many = many-are n k v g.many;
          rest = sym (rest-kept d.block s v k n) ∙ g.rest ∙ behind-behind d.block.n k n w;
        }
    step (stopped (accepted xs)) g = g
    step (stopped (refused x q k i)) g =
        record {
          day = suc g.day;
          within = omega (arith, g.within);
          lower = lower-are (refused x q k i) g;
          is = let z : day + suc g.day ≡ day + 1 + g.day = omega arith in rw (z, ← left_behind g.day) g.is;
        }

  -- ---- a day that is refused

  refused-first : (day m : ℕ) (w : Lent) (a : Answer) → single_answer file day w ≡ a → RefusedSingly file day (suc m) w a
  unfolding left_for
  refused-first day m w a q =
      let z : day + 0 ≡ day = omega arith in record { day = 0; within = omega arith; lower = λ j h. absurd (omega arith); is = rw z q }

  answer-14 : (day : ℕ) (w : Lent) → drop day (days_of file) ≡ [] → single_answer file day w ≡ refusal 14
  unfolding single_answer read_of
  answer-14 day w e = rw (ck, e)

  answer-15 : (day : ℕ) (w : Lent) (d : DayRows) (ds : List DayRows) → drop day (days_of file) ≡ d ∷ ds
      → (room_for d.block.n w.values w.marks && places_for 1 w.days) ≡ false → single_answer file day w ≡ refusal 15
  unfolding single_answer read_of read_into
  answer-15 day w d ds e f =
      by (room_for d.block.n w.values w.marks)
      (λ t. let p : places_for 1 w.days ≡ false = rw t at f in rw (ck, e, t, p))
      (λ t. rw (ck, e, t))

  -- ---- all of them

  none : (day : ℕ) (w : Lent) → turns_singly file day 0 w (in_turn file 0 day w)
  unfolding in_turn
  none day w = record { all = refl; each = λ j h. absurd (omega arith); many = refl; rest = refl }

  turns : (m day : ℕ) (w : Lent) (ds : List DayRows) → drop day (days_of file) ≡ ds → are_sound ds ≡ true → turns_singly file day m w (in_turn file m day w)
  turns zero day w ds e s = none day w
  turns (suc m) day w [] e s = rw (stops-14 file ys ck m day w e) (refused-first day m w (refusal 14) (answer-14 day w e))
  turns (suc m) day w (d ∷ ds) e s =
      let n = d.block.n in
      let a = and-true (is_sound d.block) (are_sound ds) s in
      by (room_for n w.values w.marks && places_for 1 w.days)
      (λ t.
      let b = and-true (room_for n w.values w.marks) (places_for 1 w.days) t in
      let next : drop (day + 1) (days_of file) ≡ ds = sym (drop-drop 1 day (days_of file)) ∙ ap (drop 1) e in
      rw (turn-read file ys ck day m d ds e a.0 w b.0 b.1)
      (step day m w d ds e a.0 b.0 b.1 (in_turn file m (day + 1) (behind n 1 w)) (turns m (day + 1) (behind n 1 w) ds next a.1)))
      (λ t. rw (stops-15 file ys ck m day w d ds e t) (refused-first day m w (refusal 15) (answer-15 day w d ds e t)))

-- ---- the call

wholly-singly : (file : List ℕ) (first last : ℕ) (w : Lent) (t : Turns) → turns_singly file first (last + 1 - first) w t → AsSingleCalls file first last w (wholly t w)
wholly-singly file first last w (read d k v) g = g
wholly-singly file first last w (stopped (refused x p k i)) g = (g, refl)
wholly-singly file first last w (stopped (accepted xs)) g = absurd g

-- of an accepted file: the days that are asked for, each as `read_day` reads it, or the refusal of the lowest day that a single call would refuse
pub as-single-calls : (file : List ℕ) (first last : ℕ) (w : Lent) → IsAccepted file → AsSingleCalls file first last w (month_of file first last w)
unfolding month_of
as-single-calls file first last w ac =
    rw ac.1
    (wholly-singly file first last w (in_turn file (last + 1 - first) first w)
    (turns file _ ac.1 (last + 1 - first) first w (drop first (days_of file)) refl (are_sound-drop first (days_of file) (checked-days file ac.0 ac.1))))

-- a file that is refused: its refusal, as of every single call
pub file-refused : (file : List ℕ) (first last : ℕ) (w : Lent) (x p k i : ℕ) → check_of file ≡ refused x p k i
    → (month_of file first last w ≡ days_left (refused x p k i) w) × ((day : ℕ) → single_answer file day w ≡ refused x p k i)
unfolding month_of single_answer read_of
file-refused file first last w x p k i e = (rw e, λ day. rw e)

-- first above last: nothing is written
pub none-asked : (file : List ℕ) (first last : ℕ) (w : Lent) → IsAccepted file → last < first → month_of file first last w ≡ days_left (accepted (0 ∷ 0 ∷ [])) w
unfolding month_of in_turn
none-asked file first last w ac h = let z : last + 1 - first ≡ 0 = omega arith in rw (ac.1, z)
