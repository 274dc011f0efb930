-- Fields of digits: what one says of its bytes, and the texts of numbers, dates and times read back. No text that is read back so is shorter.
-- Assumes nothing.
use Rattle.std.proofs.Common.{Option, Some, None}
use Prim.Native.Nat.{ℕ, ◌/◌, ◌%◌, ◌^◌, ◌≤◌, ◌<◌, zero-le}
use mathlib.Core.Path.{◌≡◌, sym, ap, ◌∙◌, subst}
use mathlib.Core.Bool.{Bool, true, false, ◌||◌}
use mathlib.Core.List.{List}
use native.Mathlib.Omega.{arith}
use lib.ListN.{length, get_or}
use lib.Dec.{eqb, ltb}
use borrow.Author.Tests.{eq-eqb, ne_eqb, le-leb, le-ltb, ltb-true}
use Rattle.ground.specs.Lists.{all}
use Rattle.ground.specs.Digits.{is_digit, decimal, padded, dec}
use Rattle.ground.proofs.Tests.{and-true}
use Rattle.ground.proofs.Cases.{split, same_or, by}
use Rattle.ground.proofs.Digits.{length-padded, all-padded, decimal-padded, all-dec, decimal-dec, dec_some, dec-first, dec-most, dec-least}
use Rattle.format.specs.Bytes.{are_all}
use Rattle.format.specs.Numbers.{that, number_of, leading_zero, small_of, no_reason, reason_of}
use Rattle.format.specs.Dates.{is_date, is_time, date_of, time_of, load_of}
use Rattle.format.specs.Block.{fit_reason, reason_text, load_text}
use Rattle.format.proofs.Numbers.{Got, got}
use Rattle.format.proofs.Dates.{day-is}

-- ---- a field of digits

pub digits_are : (least most : ℕ) (s : List ℕ) → least ≤ length s → length s ≤ most → all is_digit s ≡ true → number_of least most s ≡ Some (decimal s)
unfolding number_of are_all
digits_are least most s l h a = rw (le-leb least (length s) l, le-leb (length s) most h, a)

-- k digits
padded-back : (k n : ℕ) → n < 10 ^ k → number_of k k (padded k n) ≡ Some n
padded-back k n h =
    digits_are k k (padded k n) (rw (length-padded k n) (omega arith)) (rw (length-padded k n) (omega arith)) (all-padded k n)
    ∙ ap Some (decimal-padded k n h)

pub two_back : (m : ℕ) → m < 100 → number_of 2 2 (padded 2 m) ≡ Some m
two_back m h = padded-back 2 m h

-- ---- numbers without leading zeros: start, end, reason

no-leading-zero : (n : ℕ) → n < 10 ^ 20 → leading_zero (dec n) ≡ false
unfolding leading_zero
no-leading-zero n h =
    split n 9
    (λ l. rw (le-ltb 1 (length (dec n)) (dec-most n 1 (omega arith) (omega arith))))
    (λ l. rw (ne_eqb (get_or (dec n) 0 0) 48 (λ e. omega (arith, dec-first n (omega arith) h))) (by (ltb 1 (length (dec n))) (λ e. rw e) (λ e. rw e)))

pub small-back : (most n : ℕ) → 1 ≤ most → n < 10 ^ most → n < 10 ^ 20 → small_of most (dec n) ≡ Some n
unfolding small_of
small-back most n p h b =
    rw (no-leading-zero n b)
    (digits_are 1 most (dec n) (dec_some n) (dec-most n most p h) (all-dec n) ∙ ap Some (decimal-dec n b))

pub small-got : (most : ℕ) (s : List ℕ) (n : ℕ) → small_of most s ≡ Some n → Got 1 most s n
unfolding small_of
small-got most s n e = by (leading_zero s) (λ t. absurd (impossible (rw t at e))) (λ t. got 1 most s n (rw t at e))
  where
    impossible : None ≡ Some n → ⊥
    impossible q = let z : ◌≡◌ {A = ℕ} 0 1 = cc in omega arith

pub got-least : (least most : ℕ) (s : List ℕ) (n : ℕ) → 1 ≤ least → Got least most s n → length (dec n) ≤ length s
got-least least most s n p g = subst (λ (k : ℕ). length (dec k) ≤ length s) g.number (dec-least s g.is (omega (arith, g.low)))

pub small-shortest : (most : ℕ) (s : List ℕ) (n : ℕ) → small_of most s ≡ Some n → length (dec n) ≤ length s
small-shortest most s n e = got-least 1 most s n (omega arith) (small-got most s n e)

pub reason-back : (r : ℕ) → fit_reason r ≡ true → reason_of (reason_text r) ≡ Some r
unfolding fit_reason reason_of reason_text
reason-back r f =
    same_or r no_reason
    (λ e. rw (eq-eqb r no_reason e) (ap Some (sym e)))
    (λ e. let h : r < 1000 = ltb-true r 1000 (rw (ne_eqb r no_reason e) at f) in
    rw (ne_eqb r no_reason e, ne_eqb (length (dec r)) 0 (λ z. omega (arith, dec_some r)))
    (small-back 3 r (omega arith) (omega arith) (omega arith)))

pub reason-shortest : (s : List ℕ) (r : ℕ) → reason_of s ≡ Some r → length (reason_text r) ≤ length s
unfolding reason_of reason_text
reason-shortest s r e =
    same_or r no_reason
    (λ q. rw (eq-eqb r no_reason q) zero-le)
    (λ q. rw (ne_eqb r no_reason q)
    (by (eqb (length s) 0) (λ t. absurd (q (none (rw t at e)))) (λ t. small-shortest 3 s r (rw t at e))))
  where
    none : Some no_reason ≡ Some r → r ≡ no_reason
    none z = cc

-- ---- dates and times

that-passed : (p : ℕ → Bool) (n : ℕ) → p n ≡ true → that p (Some n) ≡ Some n
that-passed p n t = rw t

that-got : (p : ℕ → Bool) (x : Option ℕ) (n : ℕ) → that p x ≡ Some n → x ≡ Some n
that-got p (Some v) n e = by (p v) (λ t. rw t at e) (λ t. absurd (impossible (rw t at e)))
  where
    impossible : None ≡ Some n → ⊥
    impossible q = let z : ◌≡◌ {A = ℕ} 0 1 = cc in omega arith
that-got p None n e = let z : ◌≡◌ {A = ℕ} 0 1 = cc in absurd (omega arith)

-- a date has eight digits, a time fourteen
pub date-below : (t : ℕ) → is_date t ≡ true → t < 10 ^ 8
unfolding is_date
date-below t e = omega (arith, day-is (t / 10000) (t / 100 % 100) (t % 100) e)

pub time-below : (t : ℕ) → is_time t ≡ true → t < 10 ^ 14
unfolding is_time
time-below t e =
    let c1 = and-true _ (ltb (t % 100) 60) e in
    let c2 = and-true _ (ltb (t / 100 % 100) 60) c1.0 in
    let c3 = and-true (is_date (t / 1000000)) (ltb (t / 10000 % 100) 24) c2.0 in
    omega (arith, date-below (t / 1000000) c3.0)

pub date-back : (t : ℕ) → is_date t ≡ true → date_of (padded 8 t) ≡ Some t
unfolding date_of
date-back t e = rw (padded-back 8 t (date-below t e)) (that-passed is_date t e)

pub time-back : (t : ℕ) → is_time t ≡ true → time_of (padded 14 t) ≡ Some t
unfolding time_of
time-back t e = rw (padded-back 14 t (time-below t e)) (that-passed is_time t e)

pub load-back : (t : ℕ) → (eqb t 0 || is_time t) ≡ true → load_of (load_text t) ≡ Some t
unfolding load_of load_text
load-back t f =
    same_or t 0
    (λ e. rw (eq-eqb t 0 e) (ap Some (sym e)))
    (λ e. let h : is_time t ≡ true = rw (ne_eqb t 0 e) at f in
    rw (ne_eqb t 0 e, length-padded 14 t) (time-back t h))

pub date-length : (s : List ℕ) (t : ℕ) → date_of s ≡ Some t → length s ≡ 8
unfolding date_of
date-length s t e = let g = got 8 8 s t (that-got is_date (number_of 8 8 s) t e) in omega (arith, g.low, g.high)

pub time-length : (s : List ℕ) (t : ℕ) → time_of s ≡ Some t → length s ≡ 14
unfolding time_of
time-length s t e = let g = got 14 14 s t (that-got is_time (number_of 14 14 s) t e) in omega (arith, g.low, g.high)

pub load-shortest : (s : List ℕ) (t : ℕ) → load_of s ≡ Some t → length (load_text t) ≤ length s
unfolding load_of load_text
load-shortest s t e =
    same_or t 0
    (λ q. rw (eq-eqb t 0 q) zero-le)
    (λ q. rw (ne_eqb t 0 q, length-padded 14 t)
    (by (eqb (length s) 0) (λ c. absurd (q (none (rw c at e)))) (λ c. omega (arith, time-length s t (rw c at e)))))
  where
    none : Some 0 ≡ Some t → t ≡ 0
    none z = cc
