-- The day after a date is the next date; the test of a read time that belongs to a day. Assumes nothing.
use Prim.Native.Nat.{ℕ, ◌+◌, ◌*◌, ◌/◌, ◌%◌, ◌≤◌, ◌<◌}
use mathlib.Core.Path.{◌≡◌, refl, sym, ◌∙◌}
use mathlib.Core.Logic.{◌≢◌, inl, inr}
use mathlib.Core.Bool.{true, not, ◌&&◌, ◌||◌}
use native.Mathlib.Omega.{arith}
use lib.Dec.{eqb}
use borrow.Author.Tests.{eqb-true, eqb-false, eq-eqb, ne_eqb, le-leb, not-true}
use Rattle.ground.proofs.Cases.{by, split}
use Rattle.ground.proofs.Tests.{or-true, and-true}
use Rattle.format.specs.Dates.{is_leap, days_in_month, is_date, day_after, is_time}
use Rattle.format.specs.Faults.{on_day}
use Rattle.format.proofs.Dates.{Day, day-is, day-end, after-cases}
use Rattle.theorems.specs.Grammar.{Within}
use Rattle.theorems.specs.Calendar.{NextDate}

-- ---- dates

month-days : (y m : ℕ) → (28 ≤ days_in_month y m) × (days_in_month y m ≤ 31)
unfolding days_in_month
month-days y m =
    by (eqb m 2)
    (λ e. rw e (by (is_leap y) (λ f. rw f (omega arith, omega arith)) (λ f. rw f (omega arith, omega arith))))
    (λ e. rw e (by (eqb m 4 || eqb m 6 || eqb m 9 || eqb m 11) (λ f. rw f (omega arith, omega arith)) (λ f. rw f (omega arith, omega arith))))

date-is : (t : ℕ) → is_date t ≡ true → Day (t / 10000) (t / 100 % 100) (t % 100)
unfolding is_date
date-is t h = day-is (t / 10000) (t / 100 % 100) (t % 100) h

is-date : (t y m d : ℕ) → t / 10000 ≡ y → t / 100 % 100 ≡ m → t % 100 ≡ d → Day y m d → is_date t ≡ true
unfolding is_date
is-date t y m d a b c w = rw (a, b, c) (sym (day-end y m d refl w.from w.to w.first w.last w.one) ∙ le-leb _ _ w.end)

-- there is a last one
pub last-date : (t : ℕ) → is_date t ≡ true → t ≤ 21991231
last-date t h = let w = date-is t h in omega (arith, w.to, w.last, w.end, (month-days (t / 10000) (t / 100 % 100)).1)

pub time-date : (x : ℕ) → is_time x ≡ true → is_date (x / 1000000) ≡ true
unfolding is_time
time-date x e = (and-true _ _ (and-true _ _ (and-true _ _ e).0).0).0

-- ---- the day after

module _ (t : ℕ) (h : is_date t ≡ true) where
  in-month : t % 100 < days_in_month (t / 10000) (t / 100 % 100) → NextDate t (t + 1)
  in-month l =
      let w = date-is t h in
      let n = month-days (t / 10000) (t / 100 % 100) in
      record {
        is-date =
            is-date (t + 1) (t / 10000) (t / 100 % 100) (t % 100 + 1) (omega arith) (omega arith) (omega arith)
            (record { from = w.from; to = w.to; first = w.first; last = w.last; one = omega arith; end = omega (arith, l) });
        later = omega arith;
        least = λ v g b. omega arith;
      }

  -- a date of the same month is not behind its last day
  same-month : (v : ℕ) → is_date v ≡ true → days_in_month (t / 10000) (t / 100 % 100) ≤ t % 100 → v / 100 ≡ t / 100 → v ≤ t
  same-month v g l e =
      let y : v / 10000 ≡ t / 10000 = omega arith in
      let z : v % 100 ≤ days_in_month (t / 10000) (t / 100 % 100) = rw (y, e) at (date-is v g).end in
      omega arith

  next-month : days_in_month (t / 10000) (t / 100 % 100) ≤ t % 100 → t / 100 % 100 < 12 → NextDate t ((t / 100 + 1) * 100 + 1)
  next-month l m =
      let w = date-is t h in
      record {
        is-date =
            is-date ((t / 100 + 1) * 100 + 1) (t / 10000) (t / 100 % 100 + 1) 1 (omega arith) (omega arith) (omega arith)
            (record {
              from = w.from;
              to = w.to;
              first = omega arith;
              last = omega arith;
              one = omega arith;
              end = omega (arith, (month-days (t / 10000) (t / 100 % 100 + 1)).0);
            });
        later = omega arith;
        least = λ v g b. split ((t / 100 + 1) * 100 + 1) v (λ k. k) (λ k. absurd (let x = (date-is v g).one in let u = same-month v g l (omega arith) in omega arith));
      }

  next-year : t < 21991231 → days_in_month (t / 10000) (t / 100 % 100) ≤ t % 100 → 12 ≤ t / 100 % 100 → NextDate t ((t / 10000 + 1) * 10000 + 101)
  unfolding days_in_month
  next-year b l m =
      let w = date-is t h in
      let e : t / 100 % 100 ≡ 12 = omega (arith, w.last) in
      let n : 31 ≤ t % 100 = rw e at l in
      record {
        is-date =
            is-date ((t / 10000 + 1) * 10000 + 101) (t / 10000 + 1) 1 1 (omega arith) (omega arith) (omega arith)
            (record {
              from = omega (arith, w.from);
              to = omega arith;
              first = omega arith;
              last = omega arith;
              one = omega arith;
              end = omega (arith, (month-days (t / 10000 + 1) 1).0);
            });
        later = omega arith;
        least = λ v g a.
            split ((t / 10000 + 1) * 10000 + 101) v (λ k. k)
            (λ k. absurd (let x = date-is v g in let u = same-month v g l (omega (arith, x.one, x.first, x.last)) in omega arith));
      }

-- for each date before the last one
pub day-after : (t : ℕ) → is_date t ≡ true → t < 21991231 → NextDate t (day_after t)
day-after t h b = after-cases t (NextDate t) (in-month t h) (next-month t h) (next-year t h (omega (arith, b)))

pub day-after-last : day_after 21991231 ≡ 22000101
unfolding day_after days_in_month
day-after-last = refl

-- ---- a read time

-- the test of 12: no time, or one within the day
pub none-on : (t : ℕ) → on_day t 0 ≡ true
unfolding on_day
none-on t = refl

pub on-within : (t x : ℕ) → x ≢ 0 → on_day t x ≡ true → Within t x
unfolding on_day
on-within t x n d =
    by (eqb (x / 1000000) t && not (eqb (x % 1000000) 0))
    (λ a. let b = and-true _ _ a in inl (eqb-true _ _ b.0, eqb-false _ _ (not-true _ b.1)))
    (λ a. let c : eqb x (day_after t * 1000000) ≡ true = rw (ne_eqb x 0 n, a) at d in inr (eqb-true _ _ c))

pub within_on : (t x : ℕ) → Within t x → on_day t x ≡ true
unfolding on_day
within_on t x (inl (e, n)) = rw (eq-eqb _ _ e, ne_eqb _ _ n, or-true)
within_on t x (inr e) = rw (eq-eqb x (day_after t * 1000000) e, or-true)
