-- The first day that has a key, as it is looked for. Assumes nothing.
use Rattle.std.proofs.Common.{Option, Some, None}
use Prim.Native.Nat.{ℕ, zero, suc, ◌+◌, ◌-◌, ◌≤◌, ◌<◌}
use mathlib.Core.Path.{◌≡◌, refl, sym, ap, ◌∙◌}
use mathlib.Core.List.{List, [], ◌∷◌}
use mathlib.Core.Bool.{Bool, true, false, false≢true, ◌&&◌}
use native.Mathlib.Omega.{arith}
use lib.ListN.{length, take, drop}
use lib.Seq.{drop-drop}
use lib.Dec.{eqb}
use borrow.Author.Tests.{eqb-true}
use Rattle.ground.proofs.Tests.{and-true}
use Rattle.ground.specs.Lists.{part}
use Rattle.format.specs.Cut.{fields, field}
use Rattle.format.specs.Day.{DayRows, days_of}
use Rattle.format.specs.Numbers.{number_of}
use Rattle.format.specs.Records.{date_in}
use Rattle.format.specs.Units.{same_letters}
use Rattle.day.specs.Places.{day_at, located}
use Rattle.day.specs.declared.Under.{Under}
use Rattle.day.specs.declared.Place.{Place}
use Rattle.named.specs.Named.{has_key, is_first, first_from, days_up_to, is_dashed, undashed, date_word}

-- a list without its first element, and no more of it than n
take_none : (n : ℕ) → take {A = DayRows} n [] ≡ []
take_none zero = refl
take_none (suc n) = refl

module _ (is : DayRows → Bool) (k : ℕ) where
  first-here : (n : ℕ) (ds : List DayRows) → is_first is ds ≡ true → first_from is k (take (suc n) ds) ≡ Some k
  unfolding first_from
  first-here n [] t = absurd (false≢true t)
  first-here n (d ∷ ds) t = rw t

  first-later : (n : ℕ) (ds : List DayRows) → is_first is ds ≡ false → first_from is k (take (suc n) ds) ≡ first_from is (k + 1) (take n (drop 1 ds))
  unfolding first_from
  first-later n [] f = rw (take_none n)
  first-later n (d ∷ ds) f = rw f

module _ (is : DayRows → Bool) (file : List ℕ) (k end : ℕ) (whole : Option ℕ) (inv : first_from is k (days_up_to file k end) ≡ whole) where
  pub search-over : end ≤ k → None ≡ whole
  unfolding first_from
  search-over h =
      let z : end - k ≡ 0 = omega arith in
      let e : days_up_to file k end ≡ [] = rw z in
      rw e at inv

  -- b is what `is_wanted` answers
  module _ (p : Option Place) (there : located file p ≡ drop k (days_of file)) (l : k < end) {b : Bool} (eb : b ≡ is_first is (located file p)) where
    more : end - k ≡ suc (end - (k + 1))
    more = omega arith

    pub search-found : b ≡ true → Some k ≡ whole
    search-found t = sym (first-here is k (end - (k + 1)) (drop k (days_of file)) (ap (is_first is) (sym there) ∙ sym eb ∙ t)) ∙ (rw more at inv)

    pub search-on : b ≡ false → first_from is (k + 1) (days_up_to file (k + 1) end) ≡ whole
    search-on f =
        let d : drop (k + 1) (days_of file) ≡ drop 1 (drop k (days_of file)) = sym (drop-drop 1 k (days_of file)) in
        let s = first-later is k (end - (k + 1)) (drop k (days_of file)) (ap (is_first is) (sym there) ∙ sym eb ∙ f) in
        ap (λ (ds : List DayRows). first_from is (k + 1) (take (end - (k + 1)) ds)) d ∙ sym s ∙ (rw more at inv)

-- the day at a place that the walk answers; b is what `has_key` answers
module _ (file : List ℕ) (p : Option Place) where
  pub wanted-at : (is : DayRows → Bool) (d : Place) → p ≡ Some d → {b : Bool} → b ≡ is (day_at file d.at d.end d.under) → b ≡ is_first is (located file p)
  wanted-at is d h eb = rw h eb

  pub wanted-none : (is : DayRows → Bool) → p ≡ None → false ≡ is_first is (located file p)
  wanted-none is h = rw h

-- NMI and suffix of a 200, tested one after the other
module _ (fs : List (List ℕ)) (nmi suffix : List ℕ) {f : List ℕ} (ef : f ≡ field (2 - 1) fs) {b : Bool} (eb : b ≡ same_letters f nmi) where
  pub channel-no : b ≡ false → b ≡ (same_letters (field 1 fs) nmi && same_letters (field 4 fs) suffix)
  channel-no h = rw (← ef, ← eb, h)

  pub channel-is : b ≡ true → {g : List ℕ} → g ≡ field (5 - 1) fs → {t : Bool} → t ≡ same_letters g suffix
      → t ≡ (same_letters (field 1 fs) nmi && same_letters (field 4 fs) suffix)
  channel-is h eg et = rw (← ef, ← eb, h, ← eg) et

and-assoc-false : (x y z : Bool) → (x && y) ≡ false → (x && (y && z)) ≡ false
and-assoc-false true y z h = rw h
and-assoc-false false y z h = refl

-- the key of the day under a 200 whose 300 stands from a to e, tested one part after the other
module _ (file nmi suffix : List ℕ) (date a e : ℕ) (u : Under) {s : List ℕ} (es : s ≡ part file u.at u.end) {b : Bool}
    (eb : b ≡ (same_letters (field 1 (fields s)) nmi && same_letters (field 4 (fields s)) suffix)) where
  pub key-no : b ≡ false → b ≡ has_key nmi suffix date (day_at file a e u)
  unfolding has_key
  key-no h =
      h
      ∙ rw (← es)
      (sym
      (and-assoc-false (same_letters (field 1 (fields s)) nmi) (same_letters (field 4 (fields s)) suffix) (eqb (date_in (fields (part file a e))) date)
      (sym eb ∙ h)))

  pub key-dated : b ≡ true → {at v : ℕ} → at ≡ date_in (fields (part file a e)) → v ≡ at → eqb v date ≡ has_key nmi suffix date (day_at file a e u)
  unfolding has_key
  key-dated h ea ev =
      let w = and-true (same_letters (field 1 (fields s)) nmi) (same_letters (field 4 (fields s)) suffix) (sym eb ∙ h) in
      rw (← es, w.0, w.1, ← ea, ev)

-- ---- the words of a key

module _ (s : List ℕ) {b : Bool} (eb : b ≡ is_dashed s) where
  pub dashed-within : b ≡ true → (i : ℕ) → i ≤ 9 → i < length s
  unfolding is_dashed
  dashed-within t i h =
      let n : length s ≡ 10 = eqb-true _ _ (and-true (eqb (length s) 10) _ (sym eb ∙ t)).0 in
      omega arith

  pub date-dashed : {r : Option ℕ} → b ≡ true → r ≡ number_of 8 8 (undashed s) → r ≡ date_word s
  unfolding date_word
  date-dashed t e = rw (← eb, t) e

  pub date-plain : {r : Option ℕ} → b ≡ false → r ≡ number_of 8 8 s → r ≡ date_word s
  unfolding date_word
  date-plain f e = rw (← eb, f) e
