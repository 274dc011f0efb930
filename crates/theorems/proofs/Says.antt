-- What the rules of single fields bring with them: a date and a time are not 0, a version is 12 or 13, a 200 has intervals and a unit that is known.
-- Assumes nothing.
use Rattle.std.proofs.Common.{Option}
use Prim.Native.Nat.{ℕ, ◌≤◌}
use mathlib.Core.Path.{◌≡◌, refl, sym, ◌∙◌}
use mathlib.Core.Logic.{◌⊎◌, inl, inr}
use mathlib.Core.Bool.{Bool, true, false, true≢false, false≢true}
use mathlib.Core.List.{List}
use native.Mathlib.Omega.{arith}
use lib.ListN.{length}
use lib.Dec.{eqb}
use borrow.Author.Tests.{eqb-true, eqb-false, ne_eqb}
use Rattle.ground.specs.Lists.{same}
use Rattle.ground.specs.Text.{bytes}
use Rattle.ground.proofs.Cases.{by}
use Rattle.format.specs.Texts.{version_of}
use Rattle.format.specs.Numbers.{is_number, number_in, that, number_of, small_of, is_length, length_of, intervals_of}
use Rattle.format.specs.Units.{unit_of, is_unit, decimals_of}
use Rattle.format.specs.Dates.{is_day, is_date, is_time, date_of, is_read_time, taken_of, read_time_of}
use Rattle.format.specs.Cut.{field}
use Rattle.format.specs.Records.{scale, row_of, obeys, version_in, unit_in, decimals_in, intervals_in, date_in, read_time_in}
use Rattle.format.specs.Faults.{on_day}
use Rattle.format.proofs.Numbers.{that-holds}
use Rattle.format.proofs.Units.{unit-in, unit-decimals}
use Rattle.theorems.specs.Grammar.{Record, IsRecord, Extra}
use Rattle.theorems.proofs.Rows.{meets_at}
use Rattle.theorems.proofs.Calendar.{last-date, none-on, on-within, within_on}

-- a number that passes a test which 0 does not pass
that-some : (p : ℕ → Bool) (x : Option ℕ) → p 0 ≡ false → is_number (that p x) ≡ true → 1 ≤ number_in (that p x)
that-some p x z h =
    by (eqb (number_in (that p x)) 0)
    (λ e.
    let v : number_in (that p x) ≡ 0 = eqb-true _ _ e in
    absurd (true≢false (let y : p 0 ≡ true = (rw v at (that-holds p x h)) in sym y ∙ z)))
    (λ e. let n : number_in (that p x) ≡ 0 → ⊥ = eqb-false _ _ e in omega arith)

-- ---- a 300's date

pub date-some : (n d : ℕ) (fs : Record) → IsRecord 300 n d fs → 1 ≤ date_in fs
unfolding row_of obeys date_in date_of is_date is_day
date-some n d fs h = that-some is_date (number_of 8 8 (field 1 fs)) refl (meets_at 300 (row_of 300 (scale n d)) fs 1 h.meets (omega arith))

pub date-most : (n d : ℕ) (fs : Record) → IsRecord 300 n d fs → date_in fs ≤ 21991231
unfolding row_of obeys date_in date_of
date-most n d fs h = last-date (date_in fs) (that-holds is_date (number_of 8 8 (field 1 fs)) (meets_at 300 (row_of 300 (scale n d)) fs 1 h.meets (omega arith)))

-- ---- a 200's intervals

-- of an interval length
intervals-in : (fs : Record) → is_number (length_of (field 8 fs)) ≡ true → (intervals_in fs ≡ 288) ⊎ ((intervals_in fs ≡ 96) ⊎ (intervals_in fs ≡ 48))
unfolding intervals_in length_of intervals_of is_length
intervals-in fs h =
    let m : ℕ = number_in (length_of (field 8 fs)) in
    let p : is_length m ≡ true = that-holds is_length (small_of 2 (field 8 fs)) h in
    by (eqb m 5) (λ e. inl (rw (eqb-true m 5 e)))
    λ e₁. by (eqb m 15) (λ e. inr (inl (rw (eqb-true m 15 e))))
    λ e₂. inr (inr (let e : m ≡ 30 = eqb-true m 30 (let z : eqb m 30 ≡ true = (rw (e₁, e₂) at p) in z) in rw e))

pub length_some : (fs : Record) → is_number (length_of (field 8 fs)) ≡ true → 1 ≤ intervals_in fs
length_some fs h = go (intervals-in fs h)
  where
    go : (intervals_in fs ≡ 288) ⊎ ((intervals_in fs ≡ 96) ⊎ (intervals_in fs ≡ 48)) → 1 ≤ intervals_in fs
    go (inl e) = omega arith
    go (inr (inl e)) = omega arith
    go (inr (inr e)) = omega arith

module _ (fs : Record) (h : IsRecord 200 0 0 fs) where
  length-known : is_number (length_of (field 8 fs)) ≡ true
  unfolding row_of obeys
  length-known = meets_at 200 (row_of 200 (scale 0 0)) fs 8 h.meets (omega arith)

  pub intervals-of : (intervals_in fs ≡ 288) ⊎ ((intervals_in fs ≡ 96) ⊎ (intervals_in fs ≡ 48))
  intervals-of = intervals-in fs length-known

  pub intervals-some : 1 ≤ intervals_in fs
  intervals-some = length_some fs length-known

-- ---- a 200's unit

module _ (fs : Record) (h : IsRecord 200 0 0 fs) where
  pub unit-named : is_number (unit_of (field 7 fs)) ≡ true
  unfolding row_of obeys
  unit-named = meets_at 200 (row_of 200 (scale 0 0)) fs 7 h.meets (omega arith)

  pub unit-known : is_unit (unit_in fs) ≡ true
  unfolding unit_in
  unit-known = unit-in (field 7 fs) unit-named

  pub decimals-of : decimals_in fs ≡ decimals_of (unit_in fs)
  unfolding unit_in decimals_in
  decimals-of = unit-decimals (field 7 fs) unit-named

-- ---- a 100's version

pub version-13 : (fs : Record) → IsRecord 100 0 0 fs → (version_in fs ≡ 12 → ⊥) → version_in fs ≡ 13
unfolding row_of obeys version_in version_of
version-13 fs h n =
    let s : List ℕ = field 1 fs in
    let p : is_number (version_of s) ≡ true = meets_at 100 (row_of 100 (scale 0 0)) fs 1 h.meets (omega arith) in
    by (same s (bytes "NEM12")) (λ e. absurd (n (rw e)))
    λ e₁. by (same s (bytes "NEM13")) (λ e. rw (e₁, e)) λ e₂. absurd (let z : false ≡ true = (rw (e₁, e₂) at p) in false≢true z)

-- ---- a 500's read time

module _ (t : ℕ) (fs : Record) (h : IsRecord 500 0 0 fs) where
  -- it is given exactly when it is not 0
  time-some : 1 ≤ length (field 3 fs) → 1 ≤ read_time_in fs
  unfolding row_of obeys read_time_in read_time_of taken_of is_read_time is_time is_date is_day
  time-some l =
      let e : eqb (length (field 3 fs)) 0 ≡ false = ne_eqb (length (field 3 fs)) 0 (λ z. omega arith) in
      let p : is_number (read_time_of (field 3 fs)) ≡ true = meets_at 500 (row_of 500 (scale 0 0)) fs 3 h.meets (omega arith) in
      rw e (that-some is_read_time (number_of 14 14 (field 3 fs)) refl (rw e at p))

  time-none : length (field 3 fs) ≡ 0 → read_time_in fs ≡ 0
  unfolding read_time_in read_time_of
  time-none e = rw e

  pub on-day : on_day t (read_time_in fs) ≡ true → Extra t fs
  on-day d = (h, λ l. on-within t (read_time_in fs) (λ z. omega (arith, time-some l)) d)

pub day-on : (t : ℕ) (fs : Record) → Extra t fs → on_day t (read_time_in fs) ≡ true
day-on t fs h =
    by (eqb (length (field 3 fs)) 0)
    (λ e. rw (time-none t fs h.0 (eqb-true _ _ e)) (none-on t))
    (λ e. within_on t (read_time_in fs) (h.1 (let n : length (field 3 fs) ≡ 0 → ⊥ = eqb-false _ _ e in omega arith)))
