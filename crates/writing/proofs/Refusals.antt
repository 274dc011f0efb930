-- Each way out of the writer: the answer that the meaning gives there, and what it leaves of the room. Assumes nothing.
use Prim.Native.Nat.{ℕ, ◌≤◌, ◌<◌}
use mathlib.Core.Path.{◌≡◌, refl, sym, ap, ap₂, ◌∙◌}
use mathlib.Core.Bool.{Bool, true, false, cond, not, ◌&&◌, true≢false}
use mathlib.Core.List.{List, [], ◌∷◌}
use native.Mathlib.Omega.{arith}
use lib.ListN.{length, take}
use lib.Seq.{length-take-le}
use lib.Dec.{leb}
use borrow.Author.Tests.{eq-eqb, ne_eqb, le-leb, lt-leb, leb-true, not-true, not-false}
use Rattle.ground.specs.Lists.{all, from}
use Rattle.ground.specs.Room.{Put}
use Rattle.ground.proofs.Tests.{and-true}
use Rattle.ground.proofs.Room.{sets-front}
use Rattle.format.specs.Numbers.{intervals_of}
use Rattle.format.specs.Units.{decimals_of}
use Rattle.format.specs.Answers.{Answer, accepted, refusal, written_as}
use Rattle.format.specs.Day.{Five, five, Day, over, enough_for}
use Rattle.format.specs.Block.{given, intervals_given, mark_given, day_given, fit_mark, fit_value, fit_day, is_inside, fit_given, values_text, block_of, records_of, enough, write_of, room_of}
use Rattle.format.specs.declared.DayHead.{DayHead}
use Rattle.format.specs.declared.Written.{Written}
use Rattle.format.specs.declared.Refusal.{Refusal}
use Rattle.std.proofs.Common.{Result, Ok, Option, Some, None}
use Rattle.format.proofs.Numbers.{intervals-most, intervals-known}
use Rattle.passing.proofs.Writes.{written-length, written-lists, written-fit, written-room, written-answer}
use Rattle.text.specs.Inside.{inside}
use Rattle.fit.specs.Tags.{tag_from, mark_of, marks_from, tag_inside, inside_at, fit_marks}
use Rattle.heads.specs.Heads.{fit_head}
use Rattle.block.specs.Pieces.{day_with, fit_with, fit_of, Ready, FitDay, Sizes}
use Rattle.writing.specs.Layers.{placed_of, answered_of, measured_of, Writes}

-- ---- a fit day

module _ (d : Day) {b r : ℕ} (s : Sizes d b r) (room : List ℕ) where
  pub no_room : {w : Result Written Refusal} → length room < b → written_as w ≡ refusal 15 → Writes placed_of d room w room
  unfolding placed_of
  no_room h e =
      let f : leb (length (block_of d)) (length room) ≡ false = lt-leb (length (block_of d)) (length room) (omega (arith, s.bytes-are)) in
      record { answer = rw f e; left = rw f }

  pub placed : {p : ℕ} {after : List ℕ} → b ≤ length room → Put room 0 (block_of d) p after → Writes placed_of d room (Ok (record { bytes = b; records = r })) after
  unfolding placed_of
  placed h w =
      let g : length (block_of d) ≤ length room = omega (arith, s.bytes-are) in
      let f : leb (length (block_of d)) (length room) ≡ true = le-leb (length (block_of d)) (length room) g in
      record {
        answer = rw f (ap₂ (λ (x y : ℕ). accepted (x ∷ y ∷ [])) s.bytes-are s.records-are);
        left = rw f (w.room ∙ sets-front room (block_of d) g);
      }

  pub placed-room : b ≤ length room → length (block_of d) ≤ length room
  placed-room h = omega (arith, s.bytes-are)

-- ---- a day whose lists are long enough

bytes-if : (t : Bool) (j k : ℕ) → Some k ≡ cond t (Some j) None → (t ≡ true) × (k ≡ j)
bytes-if true j k e = (refl, (cc))
bytes-if false j k e = let z : ◌≡◌ {A = ℕ} 0 1 = cc in absurd (omega arith)

unfit-if : (t : Bool) (j : ℕ) → None ≡ cond t (Some j) None → t ≡ false
unfit-if true j e = let z : ◌≡◌ {A = ℕ} 0 1 = cc in absurd (omega arith)
unfit-if false j e = refl

module _ (h : DayHead) (n : ℕ) (vs : List ℕ) (l : Five) (text : List ℕ) {m : Option ℕ} (e : m ≡ fit_of h n vs l text) where
  is-fit : {k : ℕ} → m ≡ Some k → fit_with h n vs l text ≡ true
  unfolding fit_of
  is-fit {k} f = (bytes-if (fit_with h n vs l text) (length (values_text vs)) k (sym f ∙ e)).0

  pub day-fit : {k : ℕ} → m ≡ Some k → Ready n vs l → FitDay h n vs l text
  day-fit f r = record { ready = r; fit = is-fit f }

  pub day-bytes : {k : ℕ} → m ≡ Some k → k ≡ length (values_text vs)
  unfolding fit_of
  day-bytes {k} f = (bytes-if (fit_with h n vs l text) (length (values_text vs)) k (sym f ∙ e)).1

  pub unfit : {w : Result Written Refusal} {room : List ℕ} → m ≡ None → written_as w ≡ refusal 16
      → Writes (answered_of (fit_with h n vs l text)) (day_with h n vs l text) room w room
  unfolding answered_of fit_of
  unfit f q =
      let z : fit_with h n vs l text ≡ false = unfit-if (fit_with h n vs l text) (length (values_text vs)) (sym f ∙ e) in
      record { answer = rw z q; left = rw z }

  pub unfit-measured : {a : Answer} → m ≡ None → a ≡ refusal 16 → a ≡ measured_of (fit_with h n vs l text) (day_with h n vs l text)
  unfolding measured_of answered_of fit_of
  unfit-measured f q = rw (unfit-if (fit_with h n vs l text) (length (values_text vs)) (sym f ∙ e)) q

  pub fit-measured : {k b r : ℕ} → m ≡ Some k → Sizes (day_with h n vs l text) b r → written_as (Ok (record { bytes = b; records = r })) ≡ measured_of (fit_with h n vs l text) (day_with h n vs l text)
  unfolding measured_of answered_of placed_of
  fit-measured f s =
      rw (is-fit f, le-leb (length (block_of (day_with h n vs l text))) (length (block_of (day_with h n vs l text))) (omega arith)) (ap₂ (λ (x y : ℕ). accepted (x ∷ y ∷ [])) s.bytes-are s.records-are)

  pub fit_written : {k : ℕ} {w : Result Written Refusal} {room after : List ℕ} → m ≡ Some k
      → Writes placed_of (day_with h n vs l text) room w after
      → Writes (answered_of (fit_with h n vs l text)) (day_with h n vs l text) room w after
  unfolding answered_of
  fit_written f x =
      let z : fit_with h n vs l text ≡ true = is-fit f in
      record { answer = rw z x.answer; left = rw z x.left }

-- ---- any day

module _ (n : ℕ) (vs fs ms rs ss ls : List ℕ) {b : Bool} (f : b ≡ enough_for n (length vs) (length fs) (length ms) (length rs) (length ss) (length ls)) (t : not b ≡ false) where
  all-long : enough_for n (length vs) (length fs) (length ms) (length rs) (length ss) (length ls) ≡ true
  all-long = sym f ∙ not-false b t

  pub values-long : n ≤ length vs
  unfolding enough_for
  values-long =
      let c1 = and-true _ (leb n (length ls)) all-long in
      let c2 = and-true _ (leb n (length ss)) c1.0 in
      let c3 = and-true _ (leb n (length rs)) c2.0 in
      let c4 = and-true _ (leb n (length ms)) c3.0 in
      leb-true n (length vs) (and-true (leb n (length vs)) (leb n (length fs)) c4.0).0

  pub values-cut : n ≡ length (take n vs)
  values-cut = sym (length-take-le n vs values-long)

  pub lists-ready : (m : ℕ) → n ≡ intervals_of m → (n ≡ 0 → ⊥) → Ready n (take n vs) (five fs ms rs ss ls)
  unfolding enough_for
  lists-ready m e some =
      let c1 = and-true _ (leb n (length ls)) all-long in
      let c2 = and-true _ (leb n (length ss)) c1.0 in
      let c3 = and-true _ (leb n (length rs)) c2.0 in
      let c4 = and-true _ (leb n (length ms)) c3.0 in
      let c5 = and-true (leb n (length vs)) (leb n (length fs)) c4.0 in
      record {
        some = omega arith;
        few = omega (arith, intervals-most m);
        values = length-take-le n vs values-long;
        long =
            record {
              flags = leb-true n (length fs) c5.1;
              methods = leb-true n (length ms) c4.1;
              reasons = leb-true n (length rs) c3.1;
              starts = leb-true n (length ss) c2.1;
              lengths = leb-true n (length ls) c1.1;
            };
      }

-- the tests of a fit day, in the order of the code
reorder : (i d m : Bool) → i && (d && m) ≡ d && (i && m)
reorder true d m = refl
reorder false true m = refl
reorder false false m = refl

module _ (h : DayHead) (vs fs ms rs ss ls text : List ℕ) {n : ℕ} (e : n ≡ intervals_of h.length) where
  same-day : day_given (given h vs fs ms rs ss ls text) ≡ day_with h n (take n vs) (five fs ms rs ss ls) text
  unfolding day_given intervals_given mark_given day_with marks_from mark_of tag_from
  same-day = rw (← e)

  same-fit : fit_given (given h vs fs ms rs ss ls text) ≡ fit_with h n (take n vs) (five fs ms rs ss ls) text
  unfolding fit_given fit_day is_inside day_given intervals_given mark_given fit_with fit_head fit_marks inside_at tag_inside inside marks_from mark_of tag_from
  same-fit =
      let l = five fs ms rs ss ls in
      rw (← e)
      (reorder (all (inside_at l text) (from (λ j. j) 0 n)) (fit_head h && all (fit_value (decimals_of h.unit)) (take n vs))
      (all fit_mark (from (marks_from l text) 0 n)))

  pub no_length : {a : Answer} (room : List ℕ) → n ≡ 0 → a ≡ refusal 16 → a ≡ write_of (given h vs fs ms rs ss ls text) (length room)
  unfolding write_of intervals_given
  no_length room z q = rw (intervals-known h.length, eq-eqb (intervals_of h.length) 0 (sym e ∙ z)) q

  pub no-length-left : (room : List ℕ) → n ≡ 0 → room ≡ room_of (given h vs fs ms rs ss ls text) room
  unfolding room_of write_of intervals_given
  no-length-left room z = rw (intervals-known h.length, eq-eqb (intervals_of h.length) 0 (sym e ∙ z))

  module _ (some : n ≡ 0 → ⊥) {b : Bool} (f : b ≡ enough_for n (length vs) (length fs) (length ms) (length rs) (length ss) (length ls)) where
    pub too_short : {a : Answer} (room : List ℕ) → not b ≡ true → a ≡ refusal 15 → a ≡ write_of (given h vs fs ms rs ss ls text) (length room)
    unfolding write_of enough intervals_given
    too_short room t q = rw (intervals-known h.length, ← e, ne_eqb n 0 some, ← f, not-true b t) q

    pub too-short-left : (room : List ℕ) → not b ≡ true → room ≡ room_of (given h vs fs ms rs ss ls text) room
    unfolding room_of write_of enough intervals_given
    too-short-left room t = rw (intervals-known h.length, ← e, ne_eqb n 0 some, ← f, not-true b t)

    module _ (t : not b ≡ false) where
      answered : (room : ℕ) → answered_of (fit_with h n (take n vs) (five fs ms rs ss ls) text) (day_with h n (take n vs) (five fs ms rs ss ls) text) room ≡ write_of (given h vs fs ms rs ss ls text) room
      unfolding write_of enough intervals_given answered_of placed_of
      answered room = rw (intervals-known h.length, ← e, ne_eqb n 0 some, all-long n vs fs ms rs ss ls f t, same-fit, same-day)

      pub day-measured : {a : Answer} → a ≡ measured_of (fit_with h n (take n vs) (five fs ms rs ss ls) text) (day_with h n (take n vs) (five fs ms rs ss ls) text)
          → a ≡ write_of (given h vs fs ms rs ss ls text) (length (block_of (day_given (given h vs fs ms rs ss ls text))))
      unfolding measured_of
      day-measured q = rw same-day (q ∙ answered _)

      module _ (room : List ℕ) {w : Result Written Refusal} {after : List ℕ}
          (x : Writes (answered_of (fit_with h n (take n vs) (five fs ms rs ss ls) text)) (day_with h n (take n vs) (five fs ms rs ss ls) text) room w after) where
        pub day-answer : written_as w ≡ write_of (given h vs fs ms rs ss ls text) (length room)
        day-answer = x.answer ∙ answered (length room)

        pub day-left : after ≡ room_of (given h vs fs ms rs ss ls text) room
        unfolding room_of
        day-left = rw (← answered (length room), same-day) x.left

  -- a day that was measured
  module _ {b records : ℕ} (k : ℕ) (w : write_of (given h vs fs ms rs ss ls text) k ≡ accepted (b ∷ records ∷ [])) where
    measured-some : n ≡ 0 → ⊥
    measured-some z = true≢false (sym (written-length (given h vs fs ms rs ss ls text) k (b ∷ records ∷ []) w) ∙ intervals-known h.length ∙ rw (← e, z))

    measured-long : true ≡ enough_for n (length vs) (length fs) (length ms) (length rs) (length ss) (length ls)
    unfolding enough intervals_given
    measured-long = rw e (sym (written-lists (given h vs fs ms rs ss ls text) k (b ∷ records ∷ []) w))

    pub measured-cut : n ≡ length (take n vs)
    measured-cut = values-cut n vs fs ms rs ss ls measured-long refl

    pub measured-fit : FitDay h n (take n vs) (five fs ms rs ss ls) text
    measured-fit =
        record {
          ready = lists-ready n vs fs ms rs ss ls measured-long refl h.length e measured-some;
          fit = sym same-fit ∙ written-fit (given h vs fs ms rs ss ls text) k (b ∷ records ∷ []) w;
        }

    pub measured-records : records ≡ records_of (day_with h n (take n vs) (five fs ms rs ss ls) text)
    measured-records = let z = written-answer (given h vs fs ms rs ss ls text) k (b ∷ records ∷ []) w in let y : records ≡ records_of (day_given (given h vs fs ms rs ss ls text)) = cc in y ∙ ap records_of same-day

    pub measured-room : length (block_of (day_with h n (take n vs) (five fs ms rs ss ls) text)) ≤ k
    measured-room = rw (← same-day) (written-room (given h vs fs ms rs ss ls text) k (b ∷ records ∷ []) w)

    pub measured-put : {p : ℕ} {room after : List ℕ} → k ≡ length room → Put room 0 (block_of (day_with h n (take n vs) (five fs ms rs ss ls) text)) p after
        → after ≡ over (block_of (day_given (given h vs fs ms rs ss ls text))) room
    measured-put {p} {room} ek x =
        x.room ∙ sets-front room (block_of (day_with h n (take n vs) (five fs ms rs ss ls) text)) (omega (arith, measured-room)) ∙ ap (λ (d : Day). over (block_of d) room) (sym same-day)
