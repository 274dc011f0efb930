-- The laws of digits: how many they are, what they write, and that no number is written in fewer. Assumes nothing.
use Prim.Native.Nat.{ℕ, zero, suc, ◌+◌, ◌-◌, ◌*◌, ◌/◌, ◌%◌, ◌^◌, ◌≤◌, ◌<◌}
use mathlib.Core.Path.{◌≡◌, refl, ap, ◌∙◌}
use mathlib.Core.Bool.{Bool, true}
use mathlib.Core.List.{List, [], ◌∷◌, ◌++◌}
use native.Mathlib.Nat.{pow-suc, pow-zero}
use native.Mathlib.Numerals.{add-one}
use native.Mathlib.Omega.{arith}
use lib.ListN.{length, get_or, length-append, get_or-append}
use lib.Dec.{leb}
use borrow.Author.Tests.{lt-ltb, le-ltb, le-leb, leb-true, ne_eqb}
use Rattle.ground.specs.Lists.{all, other}
use Rattle.ground.specs.Digits.{is_digit, decimal_from, decimal, padded, width_from, width, dec}
use Rattle.ground.proofs.Tests.{and-true}
use Rattle.ground.proofs.Decimal.{decimal-below}
use Rattle.ground.proofs.Cases.{split, both}

-- ten times as much
pub ten : (k : ℕ) → 10 ^ suc k ≡ 10 ^ k * 10
ten k = pow-suc 10 k

-- ---- a test of every byte, of two lists in a row

pub all_append : {X : Type 0} (p : X → Bool) (xs ys : List X) → all p xs ≡ true → all p ys ≡ true → all p (xs ++ ys) ≡ true
all_append p [] ys e f = f
all_append p (x ∷ xs) ys e f =
    let g = and-true (p x) (all p xs) e in
    both (p x) (all p (xs ++ ys)) g.0 (all_append p xs ys g.1 f)

-- and of a weaker test
pub all_map : {X : Type 0} (p q : X → Bool) → ((x : X) → p x ≡ true → q x ≡ true) → (xs : List X) → all p xs ≡ true → all q xs ≡ true
all_map p q f [] e = refl
all_map p q f (x ∷ xs) e =
    let g = and-true (p x) (all p xs) e in
    both (q x) (all q xs) (f x g.0) (all_map p q f xs g.1)

-- ---- a digit's byte

pub digit-range : (b : ℕ) → is_digit b ≡ true → (48 ≤ b) × (b ≤ 57)
unfolding is_digit
digit-range b e = let g = and-true (leb 48 b) (leb b 57) e in (leb-true _ _ g.0, leb-true _ _ g.1)

pub digit_not : (x b : ℕ) → x < 48 → is_digit b ≡ true → other x b ≡ true
digit_not x b l e = let g = digit-range b e in rw (ne_eqb b x (λ z. omega arith))

-- ---- the last digits of a number

pub length-padded : (k n : ℕ) → length (padded k n) ≡ k
unfolding padded
length-padded zero n = refl
length-padded (suc k) n = length-append (padded k (n / 10)) ((48 + n % 10) ∷ []) ∙ ap (λ (m : ℕ). m + 1) (length-padded k (n / 10)) ∙ add-one k

pub digit-of : (d : ℕ) → d < 10 → is_digit (48 + d) ≡ true
unfolding is_digit
digit-of d h = both (leb 48 (48 + d)) (leb (48 + d) 57) (le-leb 48 (48 + d) (omega arith)) (le-leb (48 + d) 57 (omega arith))

pub all-padded : (k n : ℕ) → all is_digit (padded k n) ≡ true
unfolding padded
all-padded zero n = refl
all-padded (suc k) n =
    all_append is_digit (padded k (n / 10)) ((48 + n % 10) ∷ []) (all-padded k (n / 10))
    (both (is_digit (48 + n % 10)) true (digit-of (n % 10) (omega arith)) refl)

-- the digits before the last, and the last, at the code's k and k - 1
pub padded-step : (k n : ℕ) → 0 < k → padded k n ≡ padded (k - 1) (n / 10) ++ (48 + n % 10) ∷ []
unfolding padded
padded-step zero n h = absurd (omega arith)
padded-step (suc k) n h = let s : suc k - 1 ≡ k = omega arith in rw s

-- ---- the number that digits write

pub decimal-append : (v : ℕ) (xs ys : List ℕ) → decimal_from v (xs ++ ys) ≡ decimal_from (decimal_from v xs) ys
decimal-append v [] ys = refl
decimal-append v (x ∷ xs) ys = decimal-append (v * 10 + (x - 48)) xs ys

pub decimal-padded-from : (k v n : ℕ) → n < 10 ^ k → decimal_from v (padded k n) ≡ v * 10 ^ k + n
unfolding padded
decimal-padded-from zero v n h = omega (arith, pow-zero 10)
decimal-padded-from (suc k) v n h =
    let h' : n < 10 ^ k * 10 = rw (ten k) at h in
    let ih : decimal_from v (padded k (n / 10)) ≡ v * 10 ^ k + n / 10 = decimal-padded-from k v (n / 10) (omega arith) in
    decimal-append v (padded k (n / 10)) ((48 + n % 10) ∷ [])
    ∙ rw (ih, ten k) (omega arith)

pub decimal-padded : (k n : ℕ) → n < 10 ^ k → decimal (padded k n) ≡ n
decimal-padded k n h = decimal-padded-from k 0 n h ∙ omega arith

-- ---- how many digits a number has

pub width-pos : (f n : ℕ) → 1 ≤ width_from f n
unfolding width_from
width-pos zero n = omega arith
width-pos (suc f) n =
    split 10 n (λ h. rw (le-ltb n 10 h) (omega arith)) (λ h. rw (lt-ltb n 10 h) (omega arith))

pub width-le : (f n : ℕ) → width_from f n ≤ suc f
unfolding width_from
width-le zero n = omega arith
width-le (suc f) n =
    split 10 n (λ h. rw (le-ltb n 10 h) (omega (arith, width-le f (n / 10)))) (λ h. rw (lt-ltb n 10 h) (omega arith))

-- that many digits are enough
pub width-enough : (f n : ℕ) → n < 10 ^ suc f → n < 10 ^ width_from f n
unfolding width_from
width-enough zero n h = h
width-enough (suc f) n h =
    split 10 n
    (λ l. rw (le-ltb n 10 l) (let ih : n / 10 < 10 ^ width_from f (n / 10) = width-enough f (n / 10) (let h' : n < 10 ^ suc f * 10 = rw (ten (suc f)) at h in omega arith) in rw (ten (width_from f (n / 10))) (omega arith)))
    (λ l. rw (lt-ltb n 10 l) l)

-- and fewer are not
pub width-least : (f n k : ℕ) → 1 ≤ k → n < 10 ^ k → width_from f n ≤ k
unfolding width_from
width-least zero n k p h = p
width-least (suc f) n zero p h = absurd (omega arith)
width-least (suc f) n (suc zero) p h = rw (lt-ltb n 10 h) p
width-least (suc f) n (suc (suc k)) p h =
    let h' : n < 10 ^ suc k * 10 = rw (ten (suc k)) at h in
    split 10 n
    (λ l. rw (le-ltb n 10 l) (omega (arith, width-least f (n / 10) (suc k) (omega arith) (omega arith))))
    (λ l. rw (lt-ltb n 10 l) p)

-- how far is counted does not matter where it is far enough
pub width_same : (f g n : ℕ) → n < 10 ^ suc f → n < 10 ^ suc g → width_from f n ≡ width_from g n
width_same f g n hf hg =
    let a : width_from f n ≤ width_from g n = width-least f n (width_from g n) (width-pos g n) (width-enough g n hg) in
    let b : width_from g n ≤ width_from f n = width-least g n (width_from f n) (width-pos f n) (width-enough f n hf) in
    omega arith

-- what a turn of a loop that counts digits goes by
pub width-step : (n : ℕ) → 10 ≤ n → n < 10 ^ 20 → width n ≡ suc (width (n / 10))
unfolding width width_from
width-step n l h = rw (le-ltb n 10 l) (ap suc (width_same 18 19 (n / 10) (omega arith) (omega arith)))

pub width_small : (n : ℕ) → n < 10 → width n ≡ 1
unfolding width width_from
width_small n h = rw (lt-ltb n 10 h)

-- a number of 64 bits has at most 20 digits
pub width-most : (n : ℕ) → width n ≤ 20
unfolding width
width-most n = width-le 19 n

-- ---- numbers without leading zeros

pub length-dec : (n : ℕ) → length (dec n) ≡ width n
unfolding dec
length-dec n = length-padded (width n) n

pub all-dec : (n : ℕ) → all is_digit (dec n) ≡ true
unfolding dec
all-dec n = all-padded (width n) n

pub decimal-dec : (n : ℕ) → n < 10 ^ 20 → decimal (dec n) ≡ n
unfolding dec width
decimal-dec n h = decimal-padded (width_from 19 n) n (width-enough 19 n h)

pub dec_some : (n : ℕ) → 1 ≤ length (dec n)
unfolding width
dec_some n = omega (arith, length-dec n, width-pos 19 n)

-- the first digit is no zero, but in 0 itself
padded-first : (k n : ℕ) → 10 ^ k ≤ n → n < 10 ^ suc k → 48 < get_or (padded (suc k) n) 0 0
unfolding padded
padded-first zero n l h = omega (arith, pow-zero 10)
padded-first (suc k) n l h =
    let l' : 10 ^ k * 10 ≤ n = rw (ten k) at l in
    let h' : n < 10 ^ suc k * 10 = rw (ten (suc k)) at h in
    let ih : 48 < get_or (padded (suc k) (n / 10)) 0 0 = padded-first k (n / 10) (omega arith) (omega arith) in
    rw (get_or-append (padded (suc k) (n / 10)) ((48 + n % 10) ∷ []) 0 0 (omega (arith, length-padded (suc k) (n / 10)))) ih

pub dec-first : (n : ℕ) → 0 < n → n < 10 ^ 20 → 48 < get_or (dec n) 0 0
unfolding dec width
dec-first n p h = of_width (width_from 19 n) (width-pos 19 n) (width-enough 19 n h) (width-least 19 n)
  where
    of_width : (w : ℕ) → 1 ≤ w → n < 10 ^ w → ((k : ℕ) → 1 ≤ k → n < 10 ^ k → w ≤ k) → 48 < get_or (padded w n) 0 0
    of_width zero q e l = absurd (omega arith)
    of_width (suc zero) q e l = padded-first 0 n (omega (arith, pow-zero 10)) e
    of_width (suc (suc k)) q e l = padded-first (suc k) n (split (10 ^ suc k) n (λ g. g) (λ g. absurd (omega (arith, l (suc k) (omega arith) g)))) e

-- k digits are enough for a number below 10^k, and digits that write it are no fewer
pub dec-most : (n k : ℕ) → 1 ≤ k → n < 10 ^ k → length (dec n) ≤ k
unfolding width
dec-most n k p h = omega (arith, length-dec n, width-least 19 n k p h)

pub dec-least : (s : List ℕ) → all is_digit s ≡ true → 1 ≤ length s → length (dec (decimal s)) ≤ length s
dec-least s e p = dec-most (decimal s) (length s) p (decimal-below s e)
