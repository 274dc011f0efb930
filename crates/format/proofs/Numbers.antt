-- Numbers: the cases of `number_of`, `small_of`, `value_of` and `is_read` as the code meets them, and what a number that was read says of its bytes.
-- Assumes nothing.
use Rattle.std.specs.Bool.{then_some}
use Rattle.std.proofs.Common.{Option, Some, None}
use mathlib.Core.Path.{◌≡◌, refl, sym, ap, ◌∙◌}
use mathlib.Core.Bool.{Bool, true, false, cond, not, false≢true, true≢false}
use mathlib.Core.Logic.{◌≢◌}
use mathlib.Core.List.{List}
use Prim.Native.Nat.{ℕ, ◌+◌, ◌-◌, ◌*◌, ◌^◌, ◌≤◌, ◌<◌, min}
use native.Mathlib.Nat.{mul-lt-mul_of_pos_right, one-le-pow}
use native.Mathlib.Omega.{arith}
use lib.ListN.{length, get_or, take, drop, drop_of_length-le}
use lib.Dec.{eqb, lit≤}
use lib.Pow.{pow-add}
use mir.Val.{Fits}
use mir.Syntax.{w64}
use borrow.Author.Tests.{le-leb, eq-eqb, ne_eqb, leb-true}
use Rattle.ground.specs.Lists.{all, span_of, other}
use Rattle.ground.specs.Digits.{is_digit, decimal}
use Rattle.ground.proofs.Tests.{tests, and-false, and-true}
use Rattle.ground.proofs.Cases.{same_or, by}
use Rattle.ground.proofs.Lists.{passed-stops, passed-all, to_end}
use Rattle.ground.proofs.Decimal.{Read, decimal-below, pow_below}
use Rattle.format.specs.Bytes.{are_all}
use Rattle.format.specs.Numbers.{is_number, number_in, that, or_empty, number_of, leading_zero, small_of, is_length, intervals_of, point, before, behind, times, fraction_of, amount, value_of, are_digits, is_read}

-- a number below k, if it is one
abbrev pub under : ℕ → Option ℕ → Type 0
under k (Some v) = v < k
under k None = Unit

pub under-is : (k : ℕ) {x : Option ℕ} {v : ℕ} → under k x → x ≡ Some v → v < k
under-is k h e = rw e at h

-- ---- digits, as a loop over them meets them

module _ (least most : ℕ) (s : List ℕ) where
  pub number_short : length s < least → None ≡ number_of least most s
  unfolding number_of are_all
  number_short h = search tests

  pub number-stops : (v i : ℕ) → i < length s → false ≡ is_digit (get_or s i 0) → Read s v i → None ≡ number_of least most s
  unfolding number_of are_all
  number-stops v i h t r = rw (← passed-stops is_digit s i h t refl r.passed, and-false)

  pub number-long : least ≤ length s → most < length s → None ≡ number_of least (min most 14) s
  unfolding number_of are_all
  number-long l h = let g : min most 14 < length s = omega arith in search tests

  pub number-over : least ≤ length s → 14 < length s → None ≡ number_of least (min most 14) s
  unfolding number_of are_all
  number-over l h = let g : min most 14 < length s = omega arith in search tests

  pub number_is : (v i : ℕ) → least ≤ length s → length s ≤ most → length s ≤ 14 → length s ≤ i → Read s v i
      → Some v ≡ number_of least (min most 14) s
  unfolding number_of are_all
  number_is v i l h k e r =
      let g : length s ≤ min most 14 = omega arith in
      rw (le-leb least (length s) l, le-leb (length s) (min most 14) g, ← passed-all is_digit s i e r.passed)
      (ap Some (rw (drop_of_length-le s e) at r.number))

-- what a number that was read says of the bytes
pub record Got (least most : ℕ) (s : List ℕ) (v : ℕ) : Type 0 where
  pub low : least ≤ length s
  pub high : length s ≤ most
  pub is : all is_digit s ≡ true
  pub number : decimal s ≡ v

cond-is : (b : Bool) (d v : ℕ) → cond b (Some d) None ≡ Some v → (b ≡ true) × (d ≡ v)
cond-is true d v e = (refl, (cc))
cond-is false d v e = let z : ◌≡◌ {A = ℕ} 0 1 = cc in absurd (omega arith)

module _ (least most : ℕ) (s : List ℕ) (v : ℕ) (e : number_of least most s ≡ Some v) where
  pub got : Got least most s v
  unfolding number_of are_all
  got =
      let a = cond-is _ _ _ e in
      let b = and-true _ _ a.0 in
      let d = and-true _ _ b.0 in
      record { low = leb-true _ _ d.0; high = leb-true _ _ d.1; is = b.1; number = a.1 }

  pub got-below : v < 10 ^ length s
  got-below = rw got.number at (decimal-below s got.is)

pub number-under : (least most : ℕ) (s : List ℕ) → under (10 ^ most) (number_of least most s)
number-under least most s = one (number_of least most s) refl
  where
    one : (x : Option ℕ) → number_of least most s ≡ x → under (10 ^ most) x
    one (Some v) e = pow_below _ _ _ (got-below least most s v e) (got least most s v e).high
    one None e = tt

-- ---- a number that passes a test, and one that may be empty

pub that-holds : (p : ℕ → Bool) (x : Option ℕ) → is_number (that p x) ≡ true → p (number_in (that p x)) ≡ true
that-holds p (Some v) h = by (p v) (λ t. rw (t, t)) (λ t. absurd (false≢true (let z : false ≡ true = (rw t at h) in z)))
that-holds p None h = absurd (false≢true h)

module _ (p : ℕ → Bool) {x y : Option ℕ} where
  pub that-is : {v : ℕ} {b : Bool} → x ≡ y → x ≡ Some v → b ≡ p v → b ≡ true → Some v ≡ that p y
  that-is e i q t = rw (← e, i, ← q, t)

  pub that-not : {v : ℕ} {b : Bool} → x ≡ y → x ≡ Some v → b ≡ p v → b ≡ false → None ≡ that p y
  that-not e i q t = rw (← e, i, ← q, t)

  pub that-then : {v : ℕ} {b : Bool} → x ≡ y → x ≡ Some v → b ≡ p v → then_some b v ≡ that p y
  that-then {v} {b} e i h = rw (← e, i, ← h) (as-cond b)
    where
      as-cond : (b : Bool) → then_some b v ≡ cond b (Some v) None
      as-cond true = refl
      as-cond false = refl

  pub that-bad : x ≡ y → x ≡ None → None ≡ that p y
  that-bad e i = rw (← e, i)

module _ (v : ℕ) (rule : List ℕ → Option ℕ) (s : List ℕ) where
  pub empty-is : length s ≡ 0 → Some v ≡ or_empty v rule s
  empty-is h = rw (eq-eqb _ _ h)

  pub empty-not : {x : Option ℕ} → (length s ≡ 0 → ⊥) → x ≡ rule s → x ≡ or_empty v rule s
  empty-not h e = rw (ne_eqb _ _ h) e

-- ---- no leading zero

module _ (most : ℕ) (s : List ℕ) {b : Bool} (e : b ≡ leading_zero s) where
  pub small-zero : b ≡ true → None ≡ small_of most s
  unfolding small_of
  small-zero t = rw (← e, t)

  pub small_is : {x : Option ℕ} → x ≡ number_of 1 most s → b ≡ false → x ≡ small_of most s
  unfolding small_of
  small_is q t = rw (← e, t) q

pub small-under : (most : ℕ) (s : List ℕ) → under (10 ^ most) (small_of most s)
unfolding small_of
small-under most s = one (leading_zero s)
  where
    one : (b : Bool) → under (10 ^ most) (cond b None (number_of 1 most s))
    one true = tt
    one false = number-under 1 most s

-- ---- values

-- a fraction is below one
scaled-below : (v n : ℕ) → v < 10 ^ n → n ≤ 6 → v * 10 ^ (6 - n) < 10 ^ 6
scaled-below v n h l =
    let e : n + (6 - n) ≡ 6 = omega arith in
    omega (arith, mul-lt-mul_of_pos_right h (one-le-pow (6 - n) 10 (lit≤ tt)), sym (pow-add 10 n (6 - n)) ∙ ap (λ (k : ℕ). 10 ^ k) e)

fraction-below : (d : ℕ) (s : List ℕ) {x : Option ℕ} {v t : ℕ} → x ≡ number_of 1 (min d 6) s → x ≡ Some v → t ≡ 10 ^ (6 - length s) → v * t < 10 ^ 6
fraction-below d s {x} {v} e i q =
    let g = (got 1 (min d 6) s v (sym e ∙ i)).high in
    rw q (scaled-below v (length s) (got-below 1 (min d 6) s v (sym e ∙ i)) (omega arith))

module _ (d : ℕ) (s : List ℕ) {x : Option ℕ} {m : ℕ} (f : m ≡ min d 6) (e : x ≡ number_of 1 (min m 14) s) where
  few : x ≡ number_of 1 (min d 6) s
  few = let g : min m 14 ≡ min d 6 = omega arith in rw g at e

  pub fraction-fits : {v t : ℕ} → x ≡ Some v → t ≡ 10 ^ (6 - length s) → Fits w64 (v * t)
  fraction-fits i q = omega (arith, fraction-below d s few i q)

  pub fraction-is : {v t : ℕ} → x ≡ Some v → t ≡ 10 ^ (6 - length s) → Some (v * t) ≡ fraction_of d s
  unfolding fraction_of
  fraction-is i q = rw (← few, i, q)

  pub fraction-bad : x ≡ None → None ≡ fraction_of d s
  unfolding fraction_of
  fraction-bad i = rw (← few, i)

pub fraction-under : (d : ℕ) (s : List ℕ) → under (10 ^ 6) (fraction_of d s)
unfolding fraction_of
fraction-under d s = one (number_of 1 (min d 6) s) refl
  where
    one : (x : Option ℕ) → number_of 1 (min d 6) s ≡ x → under (10 ^ 6) (times (10 ^ (6 - length s)) x)
    one (Some v) e = fraction-below d s refl e refl
    one None e = tt

-- where one of the two is none
pub none-whole : (m : Option ℕ) {w : Option ℕ} → w ≡ None → None ≡ amount w m
none-whole m e = rw e

pub none-behind : (w : Option ℕ) {m : Option ℕ} → m ≡ None → None ≡ amount w m
none-behind (Some a) e = rw e
none-behind None e = refl

-- a whole number and millionths that were handed in
module _ {w m : Option ℕ} {a b : ℕ} (h : under (10 ^ 7) w × under (10 ^ 6) m) (i : w ≡ Some a) (j : m ≡ Some b) where
  pub join-fits : Fits w64 (a * 1000000)
  join-fits = omega (arith, under-is (10 ^ 7) h.0 i)

  pub join-fits-both : Fits w64 (a * 1000000 + b)
  join-fits-both = omega (arith, under-is (10 ^ 7) h.0 i, under-is (10 ^ 6) h.1 j)

  pub join_is : Some (a * 1000000 + b) ≡ amount w m
  join_is = rw (i, j)

module _ (d : ℕ) (s : List ℕ) {p : ℕ} {x : Option ℕ} (e : p ≡ span_of (other 46) s) where
  pub value-whole : {y : Option ℕ} → p ≡ length s → x ≡ number_of 1 7 s → y ≡ amount x (Some 0) → y ≡ value_of d s
  unfolding value_of
  value-whole l i q = rw (← e, eq-eqb _ _ l, ← i) q

  pub value-split : {y z : Option ℕ} → (p ≡ length s → ⊥) → x ≡ number_of 1 7 (take p s)
      → y ≡ fraction_of d (take (length s - (p + 1)) (drop (p + 1) s)) → z ≡ amount x y → z ≡ value_of d s
  unfolding value_of
  value-split l i j q = rw (← e, ne_eqb _ _ l, ← i, ← to_end, ← j) q

-- a value is below 10^13: what a sum of values asks
amount-below : (x y : Option ℕ) (v : ℕ) → under (10 ^ 7) x → under (10 ^ 6) y → amount x y ≡ Some v → v < 10 ^ 13
amount-below (Some w) (Some m) v h k e = let z : w * 10 ^ 6 + m ≡ v = cc in omega arith
amount-below (Some w) None v h k e = let z : ◌≡◌ {A = ℕ} 0 1 = cc in absurd (omega arith)
amount-below None y v h k e = let z : ◌≡◌ {A = ℕ} 0 1 = cc in absurd (omega arith)

pub value-below : (d : ℕ) (s : List ℕ) (v : ℕ) → value_of d s ≡ Some v → v < 10 ^ 13
unfolding value_of
value-below d s v e = one (eqb (point s) (length s)) e
  where
    one : (b : Bool) → cond b (amount (number_of 1 7 s) (Some 0)) (amount (number_of 1 7 (before s)) (fraction_of d (behind s))) ≡ Some v → v < 10 ^ 13
    one true q = amount-below (number_of 1 7 s) (Some 0) v (number-under 1 7 s) (lit≤ tt) q
    one false q = amount-below (number_of 1 7 (before s)) (fraction_of d (behind s)) v (number-under 1 7 (before s)) (fraction-under d (behind s)) q

-- ---- digits whose number passes a test

pub digits_of : (p : ℕ → Bool) (k : ℕ) (s : List ℕ) → is_number (that p (number_of k k s)) ≡ true → all is_digit s ≡ true
digits_of p k s t = one (number_of k k s) refl t
  where
    one : (n : Option ℕ) → number_of k k s ≡ n → is_number (that p n) ≡ true → all is_digit s ≡ true
    one (Some v) e h = (got k k s v e).is
    one None e h = absurd (false≢true h)

-- ---- register reads

module _ (s : List ℕ) {p : ℕ} {b : Bool} (h : length s ≤ 15) (e : p ≡ span_of (other 46) s) where
  pub read_whole : p ≡ length s → b ≡ are_digits s → b ≡ is_read s
  unfolding is_read
  read_whole l q = rw (← e, q) (search tests)

  module _ (l : p ≡ length s → ⊥) (q : b ≡ are_digits (take p s)) where
    pub read-split : {d : Bool} → b ≡ true → d ≡ are_digits (take (length s - (p + 1)) (drop (p + 1) s)) → d ≡ is_read s
    unfolding is_read
    read-split t u = rw (← e, ← q, t, u, to_end) (search tests)

    pub read-bad : b ≡ false → false ≡ is_read s
    unfolding is_read
    read-bad t = rw (← e, ← q, t) (search tests)

-- ---- intervals

pub intervals-most : (m : ℕ) → intervals_of m ≤ 288
unfolding intervals_of is_length
intervals-most m =
    same_or m 5 (λ e. rw e (omega arith))
    (λ a. same_or m 15 (λ e. rw e (omega arith))
    (λ b. same_or m 30 (λ e. rw e (omega arith)) (λ c. rw (ne_eqb m 5 a, ne_eqb m 15 b, ne_eqb m 30 c) (omega arith))))

-- n is 0 for an interval length that is none, and for no other
pub intervals-known : (m : ℕ) → is_length m ≡ not (eqb (intervals_of m) 0)
unfolding intervals_of is_length
intervals-known m =
    same_or m 5 (λ e. rw e)
    (λ a. same_or m 15 (λ e. rw e)
    (λ b. same_or m 30 (λ e. rw e) (λ c. rw (ne_eqb m 5 a, ne_eqb m 15 b, ne_eqb m 30 c))))

pub intervals-some : (m : ℕ) → is_length m ≡ true → intervals_of m ≢ 0
intervals-some m h z = true≢false (sym h ∙ intervals-known m ∙ rw z)
