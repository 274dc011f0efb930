-- Whether a field is a value, by its first digits, the byte behind them, and what stands behind that: no number is needed.
-- Assumes nothing.
use Rattle.std.proofs.Common.{Option, Some, None}
use Prim.Native.Nat.{ℕ, ◌+◌, ◌-◌, ◌≤◌, ◌<◌, min}
use mathlib.Core.Path.{◌≡◌, refl, sym, ◌∙◌}
use mathlib.Core.Bool.{Bool, true, false, cond, ◌&&◌, false≢true}
use mathlib.Core.List.{List}
use native.Mathlib.Omega.{arith}
use native.Mathlib.Numerals.{lt_of_le_of_ne}
use lib.ListN.{length, get_or, take, drop, length-drop}
use lib.Seq.{take_all, length-take-le}
use lib.Dec.{leb, eqb}
use borrow.Author.Tests.{le-leb, lt-leb, eq-eqb, ne_eqb, eqb-true, eqb-false}
use Rattle.ground.specs.Lists.{all, span_of, other}
use Rattle.ground.specs.Digits.{is_digit, decimal}
use Rattle.ground.proofs.Tests.{and-false}
use Rattle.ground.proofs.Lists.{to_end}
use Rattle.ground.proofs.Spans.{span-le}
use Rattle.ground.proofs.Digits.{digit_not}
use Rattle.ground.proofs.Prefix.{prefix-all, prefix-end, prefix-most, prefix-past, prefix-wider}
use Rattle.format.specs.Bytes.{are_all}
use Rattle.format.specs.Numbers.{is_number, number_of, times, amount, fraction_of, point, before, behind, value_of}

is-number : (least most : ℕ) (s : List ℕ) → is_number (number_of least most s) ≡ are_all is_digit least most s
unfolding number_of
is-number least most s = one (decimal s) (are_all is_digit least most s)
  where
    one : (v : ℕ) (b : Bool) → is_number (cond b (Some v) None) ≡ b
    one v true = refl
    one v false = refl

is-times : (k : ℕ) (x : Option ℕ) → is_number (times k x) ≡ is_number x
is-times k (Some v) = refl
is-times k None = refl

is-amount : (x y : Option ℕ) → is_number (amount x y) ≡ is_number x && is_number y
is-amount (Some w) (Some m) = refl
is-amount (Some w) None = refl
is-amount None y = refl

whole_is : (x : Option ℕ) → is_number (amount x (Some 0)) ≡ is_number x
whole_is (Some w) = refl
whole_is None = refl

-- a value by its parts
parts : (d : ℕ) (s : List ℕ) → is_number (value_of d s)
    ≡ cond (eqb (point s) (length s)) (are_all is_digit 1 7 s) (are_all is_digit 1 7 (before s) && are_all is_digit 1 (min d 6) (behind s))
unfolding value_of fraction_of
parts d s = one (eqb (point s) (length s))
  where
    one : (b : Bool) → is_number (cond b (amount (number_of 1 7 s) (Some 0)) (amount (number_of 1 7 (before s)) (fraction_of d (behind s))))
        ≡ cond b (are_all is_digit 1 7 s) (are_all is_digit 1 7 (before s) && are_all is_digit 1 (min d 6) (behind s))
    one true = rw (whole_is, is-number)
    one false = rw (is-amount, is-times, is-number, is-number)

-- the digits that a field begins with end at its first point or before it
digits-point : (s : List ℕ) → span_of is_digit s ≤ point s
digits-point s = prefix-wider is_digit (other 46) (λ b. digit_not 46 b (omega arith)) s

module _ (d : ℕ) (s : List ℕ) {w : ℕ} (e : w ≡ span_of is_digit s) where
  reach : w ≤ length s
  reach = rw e (span-le is_digit s)

  all_first : all is_digit (take w s) ≡ true
  all_first = rw e (prefix-all is_digit s)

  -- at a point behind the digits
  module _ (l : w < length s) (q : get_or s w 0 ≡ 46) where
    point-here : point s ≡ w
    point-here =
        let h = digits-point s in
        let g = prefix-most (other 46) s w l (rw q) in
        omega arith

    first-few : (least most : ℕ) → are_all is_digit least most (before s) ≡ leb least w && leb w most
    unfolding are_all
    first-few least most = rw (point-here, length-take-le w s reach, all_first) (one (leb least w && leb w most))
      where
        one : (b : Bool) → b && true ≡ b
        one true = refl
        one false = refl

    at-point : is_number (value_of d s) ≡ leb 1 w && leb w 7 && are_all is_digit 1 (min d 6) (drop (w + 1) s)
    at-point =
        rw (parts d s, ne_eqb (point s) (length s) (λ f. let z = point-here in let y : ⊥ = omega arith in y), first-few 1 7, point-here)

  -- the digits do not reach so far, so not all of them are digits
  none : (m : ℕ) → w < m → m ≤ length s → (least most : ℕ) → are_all is_digit least most (take m s) ≡ false
  unfolding are_all
  none m h l least most = rw (prefix-past is_digit s m (omega arith) l, and-false)

  -- what stands before the first point is no run of 1 to 7 digits
  module _ (bad : are_all is_digit 1 7 (before s) ≡ false) (whole : point s ≡ length s → are_all is_digit 1 7 s ≡ false) where
    not-value : false ≡ is_number (value_of d s)
    not-value = rw (parts d s) (one (eqb (point s) (length s)) refl)
      where
        one : (b : Bool) → eqb (point s) (length s) ≡ b
            → false ≡ cond b (are_all is_digit 1 7 s) (are_all is_digit 1 7 (before s) && are_all is_digit 1 (min d 6) (behind s))
        one true f = sym (whole (eqb-true _ _ f))
        one false f = rw bad

  -- behind the digits stands no point, so the first point is not there
  later : w < length s → (get_or s w 0 ≡ 46 → ⊥) → w < point s
  later l ne = one (eqb w (point s)) refl (digits-point s)
    where
      one : (t : Bool) → eqb w (point s) ≡ t → span_of is_digit s ≤ point s → w < point s
      one true f h =
          let k : w ≡ point s = eqb-true w (point s) f in
          let g : point s < length s = omega arith in
          let b : other 46 (get_or s w 0) ≡ false = rw k (prefix-end (other 46) s g) in
          let c : other 46 (get_or s w 0) ≡ true = rw (ne_eqb (get_or s w 0) 46 ne) in
          absurd (false≢true (sym b ∙ c))
      one false f h = let k = eqb-false w (point s) f in let z : w ≤ point s = omega (arith, e) in lt_of_le_of_ne z k

  value-other : w < length s → (get_or s w 0 ≡ 46 → ⊥) → false ≡ is_number (value_of d s)
  value-other l ne =
      not-value (none (point s) (later l ne) (span-le (other 46) s) 1 7)
      (λ f. rw (take_all (length s) s (omega arith)) at (none (length s) l (omega arith) 1 7))

by : {X : Type 0} (t : Bool) → (t ≡ true → X) → (t ≡ false → X) → X
by true f g = f refl
by false f g = g refl

-- the cases of a value with at most d decimals, as the code meets them
module _ (d : ℕ) (few : d ≤ 6) (s : List ℕ) {w : ℕ} (e : w ≡ span_of is_digit s) where
  -- at the end of the digits: the field's end, a point, or another byte
  ends : {X : Type 0} → (w ≡ length s → X) → (w < length s → get_or s w 0 ≡ 46 → X) → (w < length s → (get_or s w 0 ≡ 46 → ⊥) → X) → X
  ends f g h =
      by (eqb w (length s)) (λ t. f (eqb-true w (length s) t))
      (λ t. let l : w < length s = lt_of_le_of_ne (reach d s e) (eqb-false w (length s) t) in
      by (eqb (get_or s w 0) 46) (λ u. g l (eqb-true _ _ u)) (λ u. h l (eqb-false _ _ u)))

  -- the whole field is digits
  whole-field : w ≡ length s → is_number (value_of d s) ≡ leb 1 w && leb w 7
  unfolding are_all
  whole-field l =
      let h : point s ≡ length s = omega (arith, digits-point s, span-le (other 46) s) in
      rw (parts d s, eq-eqb _ _ h, ← l) (one (rw (take_all w s (omega arith)) at (all_first d s e)))
    where
      one : all is_digit s ≡ true → (leb 1 w && leb w 7) && all is_digit s ≡ leb 1 w && leb w 7
      one a = rw a (two (leb 1 w && leb w 7))
        where
          two : (b : Bool) → b && true ≡ b
          two true = refl
          two false = refl

  pub value-no-digit : w < 1 → false ≡ is_number (value_of d s)
  value-no-digit h =
      ends (λ l. rw (whole-field l, lt-leb 1 w h)) (λ l q. rw (at-point d s e l q, lt-leb 1 w h)) (λ l n. value-other d s e l n)

  pub value-digits : 7 < w → false ≡ is_number (value_of d s)
  value-digits h =
      ends (λ l. rw (whole-field l, lt-leb w 7 h, and-false)) (λ l q. rw (at-point d s e l q, lt-leb w 7 h, and-false)) (λ l n. value-other d s e l n)

  pub value-all : 1 ≤ w → w ≤ 7 → w ≡ length s → true ≡ is_number (value_of d s)
  value-all a b l = rw (whole-field l, le-leb 1 w a, le-leb w 7 b)

  pub value-apart : (w ≡ length s → ⊥) → (get_or s w 0 ≡ 46 → ⊥) → false ≡ is_number (value_of d s)
  value-apart l n = value-other d s e (lt_of_le_of_ne (reach d s e) l) n

  module _ (a : 1 ≤ w) (b : w ≤ 7) (l : (w ≡ length s → ⊥)) (q : get_or s w 0 ≡ 46) where
    split-here : is_number (value_of d s) ≡ are_all is_digit 1 d (drop (w + 1) s)
    split-here = let m : min d 6 ≡ d = omega arith in rw (at-point d s e (lt_of_le_of_ne (reach d s e) l) q, le-leb 1 w a, le-leb w 7 b, m)

    pub value-point-last : w + 1 ≡ length s → false ≡ is_number (value_of d s)
    unfolding are_all
    value-point-last h = let k : length s - (w + 1) < 1 = omega arith in rw (split-here, length-drop, lt-leb 1 _ k)

    pub value-long : (w + 1 ≡ length s → ⊥) → d < length s - (w + 1) → false ≡ is_number (value_of d s)
    unfolding are_all
    value-long h k = rw (split-here, length-drop, lt-leb _ d k, and-false)

    pub value-fraction : {r : Bool} → (w + 1 ≡ length s → ⊥) → length s - (w + 1) ≤ d → r ≡ all is_digit (take (length s - (w + 1)) (drop (w + 1) s)) → r ≡ is_number (value_of d s)
    unfolding are_all
    value-fraction h k f =
        let m : 1 ≤ length s - (w + 1) = omega (arith, lt_of_le_of_ne (reach d s e) l, lt_of_le_of_ne {n = w + 1} {m = length s} (omega (arith, lt_of_le_of_ne (reach d s e) l)) h) in
        rw (split-here, length-drop, le-leb 1 _ m, le-leb _ d k, f, to_end)
