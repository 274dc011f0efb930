-- What the tests of a date and of a time say, as facts about numbers, and which date the day after is.
-- Assumes nothing.
use mathlib.Core.Path.{◌≡◌, refl, sym}
use mathlib.Core.Bool.{Bool, true, false}
use Prim.Native.Nat.{ℕ, ◌+◌, ◌*◌, ◌/◌, ◌%◌, ◌≤◌, ◌<◌}
use native.Mathlib.Omega.{arith}
use lib.Dec.{leb, ltb}
use borrow.Author.Tests.{leb-true, ltb-true, ltb-false, le-leb, lt-ltb, le-ltb}
use Rattle.ground.proofs.Cases.{by}
use Rattle.ground.proofs.Tests.{and-true, and-end}
use Rattle.format.specs.Dates.{is_leap, days_in_month, is_day, is_date, day_after, is_time}

pub record Day (y m d : ℕ) : Type 0 where
  pub from : 1900 ≤ y
  pub to : y ≤ 2199
  pub first : 1 ≤ m
  pub last : m ≤ 12
  pub one : 1 ≤ d
  pub end : d ≤ days_in_month y m

pub day-is : (y m d : ℕ) → is_day y m d ≡ true → Day y m d
unfolding is_day
day-is y m d t =
    let t5 = and-true _ _ t in
    let t4 = and-true _ _ t5.0 in
    let t3 = and-true _ _ t4.0 in
    let t2 = and-true _ _ t3.0 in
    let t1 = and-true _ _ t2.0 in
    record {
      from = leb-true _ _ t1.0;
      to = leb-true _ _ t1.1;
      first = leb-true _ _ t2.1;
      last = leb-true _ _ t3.1;
      one = leb-true _ _ t4.1;
      end = leb-true _ _ t5.1;
    }

pub day-end : (y m d : ℕ) {e : ℕ} → e ≡ days_in_month y m → 1900 ≤ y → y ≤ 2199 → 1 ≤ m → m ≤ 12 → 1 ≤ d → leb d e ≡ is_day y m d
unfolding is_day
day-end y m d q a b f l o = rw (q, le-leb _ _ a, le-leb _ _ b, le-leb _ _ f, le-leb _ _ l, le-leb _ _ o)

pub record Clock (t : ℕ) : Type 0 where
  pub hour : t / 10000 % 100 < 24
  pub minute : t / 100 % 100 < 60
  pub second : t % 100 < 60

pub clock-is : (t : ℕ) → is_time t ≡ true → Clock t
unfolding is_time
clock-is t e =
    let t3 = and-true _ _ e in
    let t2 = and-true _ _ t3.0 in
    let t1 = and-true (is_date (t / 1000000)) _ t2.0 in
    record { hour = ltb-true _ _ t1.1; minute = ltb-true _ _ t2.1; second = ltb-true _ _ t3.1 }

pub clock-end : (t : ℕ) {b : Bool} → b ≡ is_date (t / 1000000) → t / 10000 % 100 < 24 → t / 100 % 100 < 60 → t % 100 < 60 → b ≡ is_time t
unfolding is_time
clock-end t q h m s = rw (lt-ltb _ _ h, lt-ltb _ _ m, lt-ltb _ _ s, ← q) (sym (and-end _))

module _ (y m : ℕ) {b : Bool} (e : b ≡ is_leap y) (f : m ≡ 2) where
  pub days-leap : b ≡ true → 29 ≡ days_in_month y m
  unfolding days_in_month
  days-leap t = rw (f, ← e, t)

  pub days-short : b ≡ false → 28 ≡ days_in_month y m
  unfolding days_in_month
  days-short t = rw (f, ← e, t)

-- ---- the day after, where the month has e days

module _ (t : ℕ) {e : ℕ} (q : e ≡ days_in_month (t / 10000) (t / 100 % 100)) where
  pub after-day : t % 100 < e → t + 1 ≡ day_after t
  unfolding day_after
  after-day h = rw (← q, lt-ltb _ _ h) (omega arith)

  pub after-month : e ≤ t % 100 → t / 100 % 100 < 12 → (t / 100 + 1) * 100 + 1 ≡ day_after t
  unfolding day_after
  after-month h l = rw (← q, le-ltb _ _ h, lt-ltb _ _ l) (omega arith)

  pub after-year : e ≤ t % 100 → 12 ≤ t / 100 % 100 → (t / 10000 + 1) * 10000 + 101 ≡ day_after t
  unfolding day_after
  after-year h l = rw (← q, le-ltb _ _ h, le-ltb _ _ l) (omega arith)

-- what holds of each of them
pub after-cases : (t : ℕ) (P : ℕ → Type 0)
    → (t % 100 < days_in_month (t / 10000) (t / 100 % 100) → P (t + 1))
    → (days_in_month (t / 10000) (t / 100 % 100) ≤ t % 100 → t / 100 % 100 < 12 → P ((t / 100 + 1) * 100 + 1))
    → (days_in_month (t / 10000) (t / 100 % 100) ≤ t % 100 → 12 ≤ t / 100 % 100 → P ((t / 10000 + 1) * 10000 + 101))
    → P (day_after t)
after-cases t P a b c =
    by (ltb (t % 100) (days_in_month (t / 10000) (t / 100 % 100)))
    (λ e. let h = ltb-true _ _ e in rw (← after-day t refl h) (a h))
    (λ e.
    let h = ltb-false _ _ e in
    by (ltb (t / 100 % 100) 12)
    (λ f. let l = ltb-true _ _ f in rw (← after-month t refl h l) (b h l))
    (λ f. let l = ltb-false _ _ f in rw (← after-year t refl h l) (c h l)))

-- it is later, of every number
pub after-later : (t : ℕ) → t < day_after t
after-later t = after-cases t (λ u. t < u) (λ h. omega arith) (λ h l. omega arith) (λ h l. omega arith)
