-- Bytes of the commonest shape are a date, or a time; and no date and no time holds a comma. Assumes nothing.
use Rattle.std.proofs.Common.{Option}
use Prim.Native.Nat.{ℕ, ◌+◌, ◌-◌, ◌*◌, ◌/◌, ◌%◌, ◌≤◌}
use mathlib.Core.Path.{◌≡◌, refl, sym, ap, ◌∙◌}
use mathlib.Core.Bool.{Bool, true, false, cond, not, ◌&&◌, ◌||◌}
use mathlib.Core.List.{List, [], ◌∷◌}
use native.Mathlib.Omega.{arith}
use lib.ListN.{length, get_or}
use lib.Dec.{leb, eqb}
use borrow.Author.Tests.{le-leb, leb-true, eqb-true, eqb-false, not-true}
use Rattle.ground.specs.Lists.{all, other, from}
use Rattle.ground.specs.Digits.{is_digit, decimal_from, decimal}
use Rattle.ground.proofs.Tests.{and-true}
use Rattle.ground.proofs.Cases.{by}
use Rattle.ground.proofs.Decimal.{digit-is}
use Rattle.ground.proofs.Digits.{all_append, digit-range}
use Rattle.format.specs.Numbers.{is_number, that, number_of}
use Rattle.format.specs.Dates.{is_leap, days_in_month, is_date, is_time, date_of, time_of}
use Rattle.format.proofs.Numbers.{digits_of}
use Rattle.format.proofs.NumberText.{digits_are}
use Rattle.format.proofs.Dates.{day-end, clock-end}
use Rattle.quick_dates.specs.Shapes.{is_month, is_early_day, is_hour, is_sixtieth, starts_date, ends_time, is_common_date, is_common_time}
use Rattle.ground.proofs.Bytes.{digits-plain, spelled}

-- ---- numbers that are dates and times

-- every month has 28 days
days-least : (y m : ℕ) → 28 ≤ days_in_month y m
unfolding days_in_month
days-least y m = one (eqb m 2) (is_leap y) (eqb m 4 || eqb m 6 || eqb m 9 || eqb m 11)
  where
    one : (a b c : Bool) → 28 ≤ cond a (cond b 29 28) (cond c 30 31)
    one true true c = omega arith
    one true false c = omega arith
    one false b true = omega arith
    one false b false = omega arith

date-is : (c y m d : ℕ) → c ≡ 20 → y ≤ 99 → 1 ≤ m → m ≤ 12 → 1 ≤ d → d ≤ 28 → is_date (((c * 100 + y) * 100 + m) * 100 + d) ≡ true
unfolding is_date
date-is c y m d e a b f g h =
    let t = ((c * 100 + y) * 100 + m) * 100 + d in
    let p : t / 10000 ≡ c * 100 + y = omega arith in
    let q : t / 100 % 100 ≡ m = omega arith in
    let r : t % 100 ≡ d = omega arith in
    rw (p, q, r)
    (sym (day-end (c * 100 + y) m d refl (omega arith) (omega arith) b f g) ∙ le-leb d (days_in_month (c * 100 + y) m) (omega (arith, days-least (c * 100 + y) m)))

time-is : (t h m s : ℕ) → is_date t ≡ true → h ≤ 23 → m ≤ 59 → s ≤ 59 → is_time (((t * 100 + h) * 100 + m) * 100 + s) ≡ true
time-is t h m s e a b f =
    let u = ((t * 100 + h) * 100 + m) * 100 + s in
    let p : u / 1000000 ≡ t = omega arith in
    sym (clock-end u (rw p (sym e)) (omega arith) (omega arith) (omega arith))

-- ---- two digits

-- the number that they write
two : ℕ → ℕ → ℕ
two a b = (a - 48) * 10 + (b - 48)

-- two digits that write a number from l to h
record Pair (l h a b : ℕ) : Type 0 where
  tens-low : 48 ≤ a
  tens-high : a ≤ 57
  ones_low : 48 ≤ b
  ones-high : b ≤ 57
  low : l ≤ two a b
  high : two a b ≤ h

digits-pair : (a b : ℕ) → is_digit a ≡ true → is_digit b ≡ true → Pair 0 99 a b
unfolding two
digits-pair a b t u = let p = digit-range a t in let q = digit-range b u in search arith

century-pair : (a b : ℕ) → a ≡ 50 → b ≡ 48 → Pair 20 20 a b
unfolding two
century-pair a b p q = search arith

month-pair : (a b : ℕ) → is_month a b ≡ true → Pair 1 12 a b
unfolding is_month two
month-pair a b t =
    by (eqb a 48)
    (λ e. let p = eqb-true a 48 e in
    let q = and-true (leb 49 b) (leb b 57) (rw e at t) in
    let l = leb-true 49 b q.0 in
    let h = leb-true b 57 q.1 in
    search arith)
    (λ e. let q = and-true (eqb a 49 && leb 48 b) (leb b 50) (rw e at t) in
    let r = and-true (eqb a 49) (leb 48 b) q.0 in
    let p = eqb-true a 49 r.0 in
    let l = leb-true 48 b r.1 in
    let h = leb-true b 50 q.1 in
    search arith)

day-pair : (a b : ℕ) → is_early_day a b ≡ true → Pair 1 28 a b
unfolding is_early_day two
day-pair a b t =
    let q = and-true (is_digit b) (cond (eqb a 48) (not (eqb b 48)) (eqb a 49 || (eqb a 50 && not (eqb b 57)))) t in
    let d = digit-range b q.0 in
    by (eqb a 48)
    (λ e. let p = eqb-true a 48 e in
    let n = eqb-false b 48 (not-true (eqb b 48) (rw e at q.1)) in
    search arith)
    (λ e. by (eqb a 49)
    (λ f. let p = eqb-true a 49 f in
    search arith)
    (λ f. let r = and-true (eqb a 50) (not (eqb b 57)) (rw (e, f) at q.1) in
    let p = eqb-true a 50 r.0 in
    let n = eqb-false b 57 (not-true (eqb b 57) r.1) in
    search arith))

hour-pair : (a b : ℕ) → is_hour a b ≡ true → Pair 0 23 a b
unfolding is_hour two
hour-pair a b t =
    let q = and-true (is_digit b) (cond (eqb a 50) (leb b 51) (leb 48 a && leb a 49)) t in
    let d = digit-range b q.0 in
    by (eqb a 50)
    (λ e. let p = eqb-true a 50 e in
    let h = leb-true b 51 (rw e at q.1) in
    search arith)
    (λ e. let r = and-true (leb 48 a) (leb a 49) (rw e at q.1) in
    let l = leb-true 48 a r.0 in
    let h = leb-true a 49 r.1 in
    search arith)

sixtieth-pair : (a b : ℕ) → is_sixtieth a b ≡ true → Pair 0 59 a b
unfolding is_sixtieth two
sixtieth-pair a b t =
    let q = and-true (leb 48 a && leb a 53) (is_digit b) t in
    let r = and-true (leb 48 a) (leb a 53) q.0 in
    let l = leb-true 48 a r.0 in
    let h = leb-true a 53 r.1 in
    let d = digit-range b q.1 in
    search arith

-- ---- digits, two by two

all-pair : {l h a b : ℕ} (s : List ℕ) → Pair l h a b → all is_digit s ≡ true → all is_digit (a ∷ b ∷ s) ≡ true
all-pair {a = a} {b = b} s p e = rw (sym (digit-is a p.tens-low p.tens-high), sym (digit-is b p.ones_low p.ones-high)) e

first-pair : {n a b : ℕ} → Pair n n a b → decimal (a ∷ b ∷ []) ≡ n
unfolding two
first-pair p = omega (arith, p.low, p.high)

-- six digits behind a number
six : (v a b c d e f : ℕ) → decimal_from v (a ∷ b ∷ c ∷ d ∷ e ∷ f ∷ []) ≡ ((v * 100 + two a b) * 100 + two c d) * 100 + two e f
unfolding two
six v a b c d e f = one (a - 48) (b - 48) (c - 48) (d - 48) (e - 48) (f - 48)
  where
    one : (a b c d e f : ℕ) → (((((v * 10 + a) * 10 + b) * 10 + c) * 10 + d) * 10 + e) * 10 + f ≡ ((v * 100 + (a * 10 + b)) * 100 + (c * 10 + d)) * 100 + (e * 10 + f)
    one a b c d e f = omega arith

module _ (x : ℕ → ℕ) where
  -- yyyymmdd
  record Dated : Type 0 where
    century : Pair 20 20 (x 0) (x 1)
    year : Pair 0 99 (x 2) (x 3)
    month : Pair 1 12 (x 4) (x 5)
    day : Pair 1 28 (x 6) (x 7)

  -- hhmmss
  record Clocked : Type 0 where
    hour : Pair 0 23 (x 8) (x 9)
    minute : Pair 0 59 (x 10) (x 11)
    second : Pair 0 59 (x 12) (x 13)

  module _ (d : Dated) where
    date-digits : all is_digit (from x 0 8) ≡ true
    unfolding from
    date-digits = all-pair (from x 2 6) d.century (all-pair (from x 4 4) d.year (all-pair (from x 6 2) d.month (all-pair [] d.day refl)))

    date-number : is_date (decimal (from x 0 8)) ≡ true
    unfolding from
    date-number =
        let v = decimal (x 0 ∷ x 1 ∷ []) in
        ap is_date (six v (x 2) (x 3) (x 4) (x 5) (x 6) (x 7))
        ∙ date-is v (two (x 2) (x 3)) (two (x 4) (x 5)) (two (x 6) (x 7)) (first-pair d.century) d.year.high d.month.low d.month.high d.day.low d.day.high

    module _ (k : Clocked) where
      time-digits : all is_digit (from x 0 14) ≡ true
      unfolding from
      time-digits =
          all_append is_digit (from x 0 8) (from x 8 6) date-digits
          (all-pair (from x 10 4) k.hour (all-pair (from x 12 2) k.minute (all-pair [] k.second refl)))

      time-number : is_time (decimal (from x 0 14)) ≡ true
      unfolding from
      time-number =
          let t = decimal (from x 0 8) in
          ap is_time (six t (x 8) (x 9) (x 10) (x 11) (x 12) (x 13))
          ∙ time-is t (two (x 8) (x 9)) (two (x 10) (x 11)) (two (x 12) (x 13)) date-number k.hour.high k.minute.high k.second.high

-- ---- the shapes

starts-pairs : (s : List ℕ) → starts_date s ≡ true → Dated (λ i. get_or s i 0)
unfolding starts_date
starts-pairs s t =
    let t5 = and-true _ (is_early_day (get_or s 6 0) (get_or s 7 0)) t in
    let t4 = and-true _ (is_month (get_or s 4 0) (get_or s 5 0)) t5.0 in
    let t3 = and-true _ (is_digit (get_or s 3 0)) t4.0 in
    let t2 = and-true _ (is_digit (get_or s 2 0)) t3.0 in
    let t1 = and-true (eqb (get_or s 0 0) 50) (eqb (get_or s 1 0) 48) t2.0 in
    record {
      century = century-pair _ _ (eqb-true _ _ t1.0) (eqb-true _ _ t1.1);
      year = digits-pair _ _ t2.1 t3.1;
      month = month-pair _ _ t4.1;
      day = day-pair _ _ t5.1;
    }

ends-pairs : (s : List ℕ) → ends_time s ≡ true → Clocked (λ i. get_or s i 0)
unfolding ends_time
ends-pairs s t =
    let t2 = and-true _ (is_sixtieth (get_or s 12 0) (get_or s 13 0)) t in
    let t1 = and-true (is_hour (get_or s 8 0) (get_or s 9 0)) (is_sixtieth (get_or s 10 0) (get_or s 11 0)) t2.0 in
    record { hour = hour-pair _ _ t1.0; minute = sixtieth-pair _ _ t1.1; second = sixtieth-pair _ _ t2.1 }

-- k digits whose number passes a test
number-that : (p : ℕ → Bool) (k : ℕ) (s : List ℕ) → length s ≡ k → all is_digit s ≡ true → p (decimal s) ≡ true → is_number (that p (number_of k k s)) ≡ true
number-that p k s l a t = rw (digits_are k k s (omega arith) (omega arith) a, t)

pub date-common : (s : List ℕ) → is_common_date s ≡ true → is_number (date_of s) ≡ true
unfolding is_common_date date_of
date-common s t =
    let e = and-true (eqb (length s) 8) (starts_date s) t in
    let l = eqb-true (length s) 8 e.0 in
    let d = starts-pairs s e.1 in
    number-that is_date 8 s l
    (spelled (λ m. all is_digit m ≡ true) 8 s l (date-digits _ d))
    (spelled (λ m. is_date (decimal m) ≡ true) 8 s l (date-number _ d))

pub time-common : (s : List ℕ) → is_common_time s ≡ true → is_number (time_of s) ≡ true
unfolding is_common_time time_of
time-common s t =
    let e = and-true (eqb (length s) 14 && starts_date s) (ends_time s) t in
    let f = and-true (eqb (length s) 14) (starts_date s) e.0 in
    let l = eqb-true (length s) 14 f.0 in
    let d = starts-pairs s f.1 in
    let k = ends-pairs s e.1 in
    number-that is_time 14 s l
    (spelled (λ m. all is_digit m ≡ true) 14 s l (time-digits _ d k))
    (spelled (λ m. is_time (decimal m) ≡ true) 14 s l (time-number _ d k))

-- what the simple rule says of the field
pub by-rule : {x y : Option ℕ} {b : Bool} → b ≡ is_number x → x ≡ y → b ≡ is_number y
by-rule e f = rw (← f) e

-- ---- no comma

pub date-plain : (s : List ℕ) → is_number (date_of s) ≡ true → all (other 44) s ≡ true
unfolding date_of
date-plain s t = digits-plain s (digits_of is_date 8 s t)

pub time-plain : (s : List ℕ) → is_number (time_of s) ≡ true → all (other 44) s ≡ true
unfolding time_of
time-plain s t = digits-plain s (digits_of is_time 14 s t)
