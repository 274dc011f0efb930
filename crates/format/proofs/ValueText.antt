-- The text of a value: a reader holds the value by it, and no text that holds the value is shorter. Assumes nothing.
use Rattle.std.proofs.Common.{Option, Some, None}
use Prim.Native.Nat.{ℕ, zero, suc, ◌+◌, ◌-◌, ◌*◌, ◌/◌, ◌%◌, ◌^◌, ◌≤◌, ◌<◌, zero-le, min}
use mathlib.Core.Path.{◌≡◌, refl, sym, ap, ◌∙◌}
use mathlib.Core.Bool.{Bool, true, false, cond}
use mathlib.Core.Logic.{◌≢◌}
use mathlib.Core.List.{List, [], ◌∷◌, ◌++◌, append-nil}
use native.Mathlib.Nat.{pow-zero, sub-zero, suc-sub-suc, mul_assoc, mul-mod_left, add-mod, zero-mod, one-le-pow}
use native.Mathlib.Omega.{arith}
use lib.ListN.{length, take, drop, length-append, length-drop}
use lib.Seq.{length-take-le, take-append_seam, drop-append-add}
use lib.Dec.{eqb, ltb, lit≤}
use lib.Arith.{mod-mul}
use lib.Pow.{pow-add}
use borrow.Author.Tests.{eq-eqb, ne_eqb, eqb-true, eqb-false, lt-ltb, ltb-true}
use Rattle.ground.specs.Lists.{all, span_of, other}
use Rattle.ground.specs.Digits.{is_digit, decimal_from, decimal, padded, dec}
use Rattle.ground.proofs.Tests.{and-true, and-false}
use Rattle.ground.proofs.Cases.{same_or, by, both}
use Rattle.ground.proofs.Spans.{span-le}
use Rattle.ground.proofs.Digits.{digit_not, ten, length-padded, all-padded, padded-step, decimal-padded, all-dec, decimal-dec, dec_some, dec-most}
use Rattle.format.specs.Numbers.{is_number, number_of, times, amount, point, before, behind, decimals, fraction_of, value_of}
use Rattle.format.specs.Block.{small_value, fit_value, untrail, fraction_text, value_text, values_text}
use Rattle.format.proofs.Numbers.{under-is, Got, got, fraction-under, value-below}
use Rattle.format.proofs.NumberText.{digits_are, got-least}

-- ---- digits without the zeros at their end

-- one digit more: a zero goes, any other stays
zero-last : (s : List ℕ) → all (eqb 48) (s ++ 48 ∷ []) ≡ all (eqb 48) s
zero-last [] = refl
zero-last (b ∷ s) = rw (zero-last s)

pub untrail-zero : (s : List ℕ) → untrail (s ++ 48 ∷ []) ≡ untrail s
unfolding untrail
untrail-zero [] = refl
untrail-zero (b ∷ s) = rw (zero-last s, untrail-zero s)

other_last : (s : List ℕ) (x : ℕ) → 48 ≢ x → all (eqb 48) (s ++ x ∷ []) ≡ false
other_last [] x h = rw (ne_eqb 48 x h)
other_last (b ∷ s) x h = rw (other_last s x h) (and-false (eqb 48 b))

pub untrail-other : (s : List ℕ) (x : ℕ) → 48 ≢ x → untrail (s ++ x ∷ []) ≡ s ++ x ∷ []
unfolding untrail
untrail-other [] x h = rw (ne_eqb 48 x h)
untrail-other (b ∷ s) x h = rw (other_last s x h, and-false (eqb 48 b), untrail-other s x h)

untrail-le : (s : List ℕ) → length (untrail s) ≤ length s
unfolding untrail
untrail-le [] = zero-le
untrail-le (b ∷ s) = by (all (eqb 48) (b ∷ s)) (λ e. rw e zero-le) (λ e. rw e (omega (arith, untrail-le s)))

pub all-untrail : (p : ℕ → Bool) (s : List ℕ) → all p s ≡ true → all p (untrail s) ≡ true
unfolding untrail
all-untrail p [] h = refl
all-untrail p (b ∷ s) h =
    let g = and-true (p b) (all p s) h in
    by (all (eqb 48) (b ∷ s)) (λ e. rw e) (λ e. rw e (both (p b) (all p (untrail s)) g.0 (all-untrail p s g.1)))

-- what they write
zeros-write : (v : ℕ) (s : List ℕ) → all (eqb 48) s ≡ true → v * 10 ^ length s ≡ decimal_from v s
zeros-write v [] h = omega (arith, pow-zero 10)
zeros-write v (b ∷ s) h =
    let g = and-true (eqb 48 b) (all (eqb 48) s) h in
    let z : v * 10 + (b - 48) ≡ v * 10 = omega (arith, eqb-true 48 b g.0) in
    rw (z, ten (length s)) (omega (arith, zeros-write (v * 10) s g.1))

untrail-writes : (v : ℕ) (s : List ℕ) → decimal_from v (untrail s) * 10 ^ (length s - length (untrail s)) ≡ decimal_from v s
unfolding untrail
untrail-writes v [] = omega (arith, pow-zero 10)
untrail-writes v (b ∷ s) =
    by (all (eqb 48) (b ∷ s)) (λ e. rw (e, sub-zero) (zeros-write v (b ∷ s) e)) (λ e. rw (e, suc-sub-suc) (untrail-writes (v * 10 + (b - 48)) s))

-- and no digits that write the same are fewer: those of m behind which j zeros stand
untrail-shift : (k m j : ℕ) → untrail (padded (k + j) (m * 10 ^ j)) ≡ untrail (padded k m)
untrail-shift k m zero = let a : k + 0 ≡ k = omega arith in let b : m * 10 ^ 0 ≡ m = omega (arith, pow-zero 10) in rw (a, b)
untrail-shift k m (suc j) =
    let f : ℕ = m * 10 ^ suc j in
    let e : f ≡ m * (10 ^ j * 10) = rw (ten j) in
    let a : k + suc j - 1 ≡ k + j = omega arith in
    let b : f / 10 ≡ m * 10 ^ j = omega arith in
    let c : 48 + f % 10 ≡ 48 = omega arith in
    rw (padded-step (k + suc j) f (omega arith), a, b, c, untrail-zero) (untrail-shift k m j)

-- ---- the six decimals of a fraction

-- without the zeros at their end
abbrev pub trimmed : ℕ → List ℕ
trimmed f = untrail (padded 6 f)

trimmed-le : (f : ℕ) → length (trimmed f) ≤ 6
trimmed-le f = omega (arith, untrail-le (padded 6 f), length-padded 6 f)

trimmed-writes : (f : ℕ) → f < 10 ^ 6 → decimal (trimmed f) * 10 ^ (6 - length (trimmed f)) ≡ f
trimmed-writes f h =
    let e : decimal (trimmed f) * 10 ^ (length (padded 6 f) - length (trimmed f)) ≡ decimal (padded 6 f) = untrail-writes 0 (padded 6 f) in
    (rw (length-padded 6 f) at e) ∙ decimal-padded 6 f h

trimmed-least : (k m : ℕ) → k ≤ 6 → length (trimmed (m * 10 ^ (6 - k))) ≤ k
trimmed-least k m h =
    let s : k + (6 - k) ≡ 6 = omega arith in
    let e : trimmed (m * 10 ^ (6 - k)) ≡ untrail (padded k m) = (rw s at (untrail-shift k m (6 - k))) in
    rw e (omega (arith, untrail-le (padded k m), length-padded k m))

-- a number that is not 0 has a decimal left
trimmed-some : (f : ℕ) → f < 10 ^ 6 → f ≢ 0 → 1 ≤ length (trimmed f)
trimmed-some f h n = some (trimmed f) (trimmed-writes f h)
  where
    some : (s : List ℕ) → decimal s * 10 ^ (6 - length s) ≡ f → 1 ≤ length s
    some [] e = absurd (n (sym e))
    some (b ∷ s) e = omega arith

-- ---- the fraction's text

pub fraction-none : (f : ℕ) → f ≡ 0 → fraction_text f ≡ []
unfolding fraction_text
fraction-none f e = rw (eq-eqb f 0 e)

pub fraction-some : (f : ℕ) → f ≢ 0 → fraction_text f ≡ 46 ∷ trimmed f
unfolding fraction_text
fraction-some f e = rw (ne_eqb f 0 e)

-- ---- where the point is

pub point-behind : (xs ys : List ℕ) → all is_digit xs ≡ true → point (xs ++ ys) ≡ length xs + point ys
unfolding span_of
point-behind [] ys h = omega arith
point-behind (x ∷ xs) ys h =
    let g = and-true (is_digit x) (all is_digit xs) h in
    rw (digit_not 46 x (omega arith) g.0) (omega (arith, point-behind xs ys g.1))

point-le : (s : List ℕ) → point s ≤ length s
point-le s = span-le (other 46) s

-- ---- decimals of a unit: values that are whole numbers of the last of d decimals

-- ten to the six, by the decimals and those that are left
six : (k : ℕ) → k ≤ 6 → 10 ^ 6 ≡ 10 ^ k * 10 ^ (6 - k)
six k h = let e : 6 ≡ k + (6 - k) = omega arith in ap (λ (i : ℕ). 10 ^ i) e ∙ pow-add 10 k (6 - k)

-- the decimals of such a value are d at most
exact-few : (d v : ℕ) → v % 10 ^ (6 - d) ≡ 0 → length (trimmed (v % 10 ^ 6)) ≤ min d 6
exact-few d v e =
    let k : ℕ = min d 6 in
    let s : 6 - d ≡ 6 - k = omega arith in
    let c : ℕ = 10 ^ (6 - k) in
    let z : v % c ≡ 0 = rw s at e in
    let m : ℕ = v / c % 10 ^ k in
    let f : v % 10 ^ 6 ≡ m * c = ap (λ (b : ℕ). v % b) (six k (omega arith)) ∙ mod-mul v (one-le-pow k 10 (lit≤ tt)) (one-le-pow (6 - k) 10 (lit≤ tt)) ∙ omega arith in
    rw f (trimmed-least k m (omega arith))

-- digits that meet a narrower rule meet a wider one
wider : (most more : ℕ) (s : List ℕ) (v : ℕ) → most ≤ more → number_of 1 most s ≡ Some v → number_of 1 more s ≡ Some v
wider most more s v h e = let g = got 1 most s v e in digits_are 1 more s g.low (omega arith) g.is ∙ ap Some g.number

-- a value with at most d decimals is the same value where more are allowed, and a whole number of the last of d decimals
module _ (d : ℕ) (s : List ℕ) (v : ℕ) (e : value_of d s ≡ Some v) where
  pub value-wider : (more : ℕ) → min d 6 ≤ more → value_of more s ≡ Some v
  unfolding value_of fraction_of
  value-wider more h = one (eqb (point s) (length s)) e
    where
      split : (x : Option ℕ) (m : Option ℕ) → number_of 1 (min d 6) (behind s) ≡ m → amount x (times (10 ^ (6 - length (behind s))) m) ≡ Some v
          → amount x (times (10 ^ (6 - length (behind s))) (number_of 1 (min more 6) (behind s))) ≡ Some v
      split x (Some m) i q = rw (wider (min d 6) (min more 6) (behind s) m (omega arith) i) q
      split (Some w) None i q = let z : ◌≡◌ {A = ℕ} 0 1 = cc in absurd (omega arith)
      split None None i q = let z : ◌≡◌ {A = ℕ} 0 1 = cc in absurd (omega arith)

      one : (b : Bool)
          → cond b (amount (number_of 1 7 s) (Some 0)) (amount (number_of 1 7 (before s)) (times (10 ^ (6 - length (behind s))) (number_of 1 (min d 6) (behind s)))) ≡ Some v
          → cond b (amount (number_of 1 7 s) (Some 0)) (amount (number_of 1 7 (before s)) (times (10 ^ (6 - length (behind s))) (number_of 1 (min more 6) (behind s)))) ≡ Some v
      one true q = q
      one false q = split (number_of 1 7 (before s)) (number_of 1 (min d 6) (behind s)) refl q

  pub value_same : value_of decimals s ≡ Some v
  value_same = value-wider decimals (omega arith)

  pub value-exact : v % 10 ^ (6 - d) ≡ 0
  unfolding value_of fraction_of
  value-exact = one (eqb (point s) (length s)) e
    where
      wholes : (w : ℕ) → w * 10 ^ 6 % 10 ^ (6 - d) ≡ 0
      wholes w =
          let s : 6 - min d 6 ≡ 6 - d = omega arith in
          let t : 10 ^ 6 ≡ 10 ^ min d 6 * 10 ^ (6 - d) = (rw s at (six (min d 6) (omega arith))) in
          ap (λ (b : ℕ). w * b % 10 ^ (6 - d)) t ∙ ap (λ (b : ℕ). b % 10 ^ (6 - d)) (sym (mul_assoc w (10 ^ min d 6) (10 ^ (6 - d)))) ∙ mul-mod_left (w * 10 ^ min d 6) (10 ^ (6 - d))

      parts : (m n : ℕ) → n ≤ min d 6 → m * 10 ^ (6 - n) % 10 ^ (6 - d) ≡ 0
      parts m n h =
          let s : 6 - n ≡ (min d 6 - n) + (6 - d) = omega arith in
          let t : 10 ^ (6 - n) ≡ 10 ^ (min d 6 - n) * 10 ^ (6 - d) = ap (λ (i : ℕ). 10 ^ i) s ∙ pow-add 10 (min d 6 - n) (6 - d) in
          ap (λ (b : ℕ). m * b % 10 ^ (6 - d)) t ∙ ap (λ (b : ℕ). b % 10 ^ (6 - d)) (sym (mul_assoc m (10 ^ (min d 6 - n)) (10 ^ (6 - d)))) ∙ mul-mod_left (m * 10 ^ (min d 6 - n)) (10 ^ (6 - d))

      both-parts : (a b : ℕ) → a % 10 ^ (6 - d) ≡ 0 → b % 10 ^ (6 - d) ≡ 0 → (a + b) % 10 ^ (6 - d) ≡ 0
      both-parts a b p q = add-mod a b (10 ^ (6 - d)) ∙ ap (λ (x : ℕ). x % 10 ^ (6 - d)) (omega arith) ∙ zero-mod (10 ^ (6 - d))

      split : (x : Option ℕ) (m : Option ℕ) → number_of 1 (min d 6) (behind s) ≡ m → amount x (times (10 ^ (6 - length (behind s))) m) ≡ Some v → v % 10 ^ (6 - d) ≡ 0
      split (Some w) (Some m) i q =
          let z : w * 10 ^ 6 + m * 10 ^ (6 - length (behind s)) ≡ v = cc in
          rw (← z) (both-parts (w * 10 ^ 6) (m * 10 ^ (6 - length (behind s))) (wholes w) (parts m (length (behind s)) (got 1 (min d 6) (behind s) m i).high))
      split None (Some m) i q = let z : ◌≡◌ {A = ℕ} 0 1 = cc in absurd (omega arith)
      split (Some w) None i q = let z : ◌≡◌ {A = ℕ} 0 1 = cc in absurd (omega arith)
      split None None i q = let z : ◌≡◌ {A = ℕ} 0 1 = cc in absurd (omega arith)

      plain-case : (x : Option ℕ) → amount x (Some 0) ≡ Some v → v % 10 ^ (6 - d) ≡ 0
      plain-case (Some w) q = let z : w * 10 ^ 6 + 0 ≡ v = cc in rw (← z) (both-parts (w * 10 ^ 6) 0 (wholes w) (zero-mod (10 ^ (6 - d))))
      plain-case None q = let z : ◌≡◌ {A = ℕ} 0 1 = cc in absurd (omega arith)

      one : (b : Bool)
          → cond b (amount (number_of 1 7 s) (Some 0)) (amount (number_of 1 7 (before s)) (times (10 ^ (6 - length (behind s))) (number_of 1 (min d 6) (behind s)))) ≡ Some v
          → v % 10 ^ (6 - d) ≡ 0
      one true q = plain-case (number_of 1 7 s) q
      one false q = split (number_of 1 7 (before s)) (number_of 1 (min d 6) (behind s)) refl q

  pub value-fits : fit_value d v ≡ true
  unfolding fit_value small_value
  value-fits = both (ltb v (10 ^ 13)) (eqb (v % 10 ^ (6 - d)) 0) (lt-ltb _ _ (value-below d s v e)) (eq-eqb _ _ value-exact)

-- what a fit value is
pub fit-value : (d v : ℕ) → fit_value d v ≡ true → (v < 10 ^ 13) × (v % 10 ^ (6 - d) ≡ 0)
unfolding fit_value small_value
fit-value d v h = let g = and-true (ltb v (10 ^ 13)) (eqb (v % 10 ^ (6 - d)) 0) h in (ltb-true _ _ g.0, eqb-true _ _ g.1)

-- where fewer decimals are enough, more are
pub value-still : (d more : ℕ) (s : List ℕ) → d ≤ more → is_number (value_of d s) ≡ true → is_number (value_of more s) ≡ true
value-still d more s h t = one (value_of d s) refl t
  where
    one : (x : Option ℕ) → value_of d s ≡ x → is_number x ≡ true → is_number (value_of more s) ≡ true
    one (Some v) e t = rw (value-wider d s v e more (omega arith))
    one None e t = let z : ◌≡◌ {A = ℕ} 0 1 = cc in absurd (omega arith)

-- ---- a reader holds the value

pub value-back : (d v : ℕ) → fit_value d v ≡ true → value_of d (value_text v) ≡ Some v
unfolding value_of value_text fraction_of span_of
value-back d v fits =
    let h : v < 10 ^ 13 = (fit-value d v fits).0 in
    let w : ℕ = v / 10 ^ 6 in
    let f : ℕ = v % 10 ^ 6 in
    let ds : List ℕ = dec w in
    let a : all is_digit ds ≡ true = all-dec w in
    let n : number_of 1 7 ds ≡ Some w = digits_are 1 7 ds (dec_some w) (dec-most w 7 (omega arith) (omega arith)) a ∙ ap Some (decimal-dec w (omega arith)) in
    same_or f 0
    (λ e.
    let p : point ds ≡ length ds = ap point (sym (append-nil ds)) ∙ point-behind ds [] a ∙ omega arith in
    rw (fraction-none f e, append-nil, eq-eqb (point ds) (length ds) p, n) (ap Some (omega arith)))
    (λ e.
    let fs : List ℕ = trimmed f in
    let s : List ℕ = ds ++ 46 ∷ fs in
    let fl : f < 10 ^ 6 = omega arith in
    let p : point s ≡ length ds = point-behind ds (46 ∷ fs) a ∙ omega arith in
    let g : point s ≢ length s = λ r. omega (arith, length-append ds (46 ∷ fs)) in
    let b : before s ≡ ds = ap (λ (k : ℕ). take k s) p ∙ take-append_seam ds (46 ∷ fs) in
    let c : behind s ≡ fs = ap (λ (k : ℕ). drop (k + 1) s) p ∙ drop-append-add ds (46 ∷ fs) 1 in
    let i : number_of 1 (min d 6) fs ≡ Some (decimal fs) =
    digits_are 1 (min d 6) fs (trimmed-some f fl e) (exact-few d v (fit-value d v fits).1) (all-untrail is_digit (padded 6 f) (all-padded 6 f)) in
    rw (fraction-some f e, ne_eqb (point s) (length s) g, b, c, n, i, trimmed-writes f fl) (ap Some (omega arith)))

-- ---- and no text that holds it is shorter

-- m is what the digits behind the point write
fraction-least : (s : List ℕ) (m : ℕ) → Got 1 6 s m → length (fraction_text (m * 10 ^ (6 - length s))) ≤ 1 + length s
fraction-least s m g =
    let f : ℕ = m * 10 ^ (6 - length s) in
    same_or f 0
    (λ e. rw (fraction-none f e) zero-le)
    (λ e. rw (fraction-some f e) (omega (arith, trimmed-least (length s) m g.high)))

-- the text of whole units and millionths
length-value : (v w f : ℕ) → v ≡ w * 10 ^ 6 + f → f < 10 ^ 6 → length (value_text v) ≡ length (dec w) + length (fraction_text f)
unfolding value_text
length-value v w f e h =
    let a : v / 10 ^ 6 ≡ w = omega arith in
    let b : v % 10 ^ 6 ≡ f = omega arith in
    rw (a, b) (length-append (dec w) (fraction_text f))

pub value-shortest : (s : List ℕ) (v : ℕ) → value_of decimals s ≡ Some v → length (value_text v) ≤ length s
unfolding value_of fraction_of
value-shortest s v e = by (eqb (point s) (length s)) (λ t. plain-case (number_of 1 7 s) refl (rw t at e)) (λ t. split-case (eqb-false _ _ t) (number_of 1 7 (before s)) refl (number_of 1 6 (behind s)) refl (rw t at e))
  where
    plain-case : (x : Option ℕ) → number_of 1 7 s ≡ x → amount x (Some 0) ≡ Some v → length (value_text v) ≤ length s
    plain-case (Some w) i q =
        let z : w * 10 ^ 6 + 0 ≡ v = cc in
        omega (arith, length-value v w 0 (sym z) (omega arith), ap length (fraction-none 0 refl), got-least 1 7 s w (omega arith) (got 1 7 s w i))
    plain-case None i q = let z : ◌≡◌ {A = ℕ} 0 1 = cc in absurd (omega arith)

    split-case : point s ≢ length s → (x : Option ℕ) → number_of 1 7 (before s) ≡ x → (y : Option ℕ) → number_of 1 6 (behind s) ≡ y
        → amount x (times (10 ^ (6 - length (behind s))) y) ≡ Some v → length (value_text v) ≤ length s
    split-case n (Some w) i (Some m) j q =
        let f : ℕ = m * 10 ^ (6 - length (behind s)) in
        let z : w * 10 ^ 6 + f ≡ v = cc in
        let g = got 1 6 (behind s) m j in
        omega (
          arith,
          point-le s,
          length-value v w f (sym z) (under-is (10 ^ 6) (fraction-under 6 (behind s)) (ap (times (10 ^ (6 - length (behind s)))) j)),
          got-least 1 7 (before s) w (omega arith) (got 1 7 (before s) w i),
          fraction-least (behind s) m g,
          length-take-le (point s) s (point-le s),
          length-drop (point s + 1) s,
        )
    split-case n (Some w) i None j q = let z : ◌≡◌ {A = ℕ} 0 1 = cc in absurd (omega arith)
    split-case n None i y j q = let z : ◌≡◌ {A = ℕ} 0 1 = cc in absurd (omega arith)

-- ---- how long it is

pub length-plain : (v : ℕ) → v % 10 ^ 6 ≡ 0 → length (value_text v) ≡ length (dec (v / 10 ^ 6))
length-plain v e = omega (arith, length-value v (v / 10 ^ 6) (v % 10 ^ 6) (omega arith) (omega arith), ap length (fraction-none (v % 10 ^ 6) e))

pub length-point : (v : ℕ) → v % 10 ^ 6 ≢ 0 → length (value_text v) ≡ length (dec (v / 10 ^ 6)) + 1 + length (trimmed (v % 10 ^ 6))
length-point v e = omega (arith, length-value v (v / 10 ^ 6) (v % 10 ^ 6) (omega arith) (omega arith), ap length (fraction-some (v % 10 ^ 6) e))

-- a point and six decimals at most, behind the whole units
pub length_most : (v : ℕ) → length (value_text v) ≤ length (dec (v / 10 ^ 6)) + 7
length_most v = same_or (v % 10 ^ 6) 0 (λ e. omega (arith, length-plain v e)) (λ e. omega (arith, length-point v e, trimmed-le (v % 10 ^ 6)))

pub value-most : (v : ℕ) → v < 10 ^ 13 → length (value_text v) ≤ 14
value-most v h = omega (arith, length_most v, dec-most (v / 10 ^ 6) 7 (omega arith) (omega arith))

-- fit values have at most 15 bytes each, with the comma
pub values-most : (d : ℕ) (vs : List ℕ) → all (fit_value d) vs ≡ true → length (values_text vs) ≤ 15 * length vs
unfolding values_text
values-most d [] e = omega arith
values-most d (v ∷ vs) e =
    let g = and-true (fit_value d v) (all (fit_value d) vs) e in
    simp length-append (omega (arith, value-most v (fit-value d v g.0).0, values-most d vs g.1))
