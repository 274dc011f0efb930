-- Letters as capitals: capitals of capitals are the same, letters and digits stay such, and no small letter is left. Assumes nothing.
use Prim.Native.Nat.{ℕ, ◌-◌, ◌≤◌, ◌<◌}
use mathlib.Core.Path.{◌≡◌, refl, ap, ap₂}
use mathlib.Core.Bool.{Bool, true, false, ◌&&◌}
use mathlib.Core.List.{List, [], ◌∷◌}
use native.Mathlib.Omega.{arith}
use lib.ListN.{length, length-map}
use lib.Dec.{leb}
use borrow.Author.Tests.{leb-true, le-leb, lt-leb}
use Rattle.ground.specs.Lists.{all}
use Rattle.ground.specs.Digits.{is_digit}
use Rattle.ground.proofs.Tests.{and-true, or_right}
use Rattle.ground.proofs.Cases.{by, both}
use Rattle.ground.proofs.Same.{same-itself}
use Rattle.format.specs.Bytes.{is_capital, is_letter, capital, is_alnum, are_all}
use Rattle.entries.specs.Keys.{capitals, in_capitals}

-- a small letter
abbrev small : ℕ → Bool
small b = leb 97 b && leb b 122

small_is : (b : ℕ) → small b ≡ true → (97 ≤ b) × (b ≤ 122)
small_is b e = let w = and-true (leb 97 b) (leb b 122) e in (leb-true 97 b w.0, leb-true b 122 w.1)

capital-letter : (b : ℕ) → small b ≡ true → capital b ≡ b - 32
unfolding capital
capital-letter b e = rw e

capital-other : (b : ℕ) → small b ≡ false → capital b ≡ b
unfolding capital
capital-other b e = rw e

capital-twice : (b : ℕ) → capital (capital b) ≡ capital b
capital-twice b =
    by (small b)
    (λ t.
    let w = small_is b t in
    let l : b - 32 < 97 = omega arith in
    rw (capital-letter b t) (capital-other (b - 32) (rw (lt-leb 97 (b - 32) l))))
    (λ t. ap capital (capital-other b t))

capitals-twice : (s : List ℕ) → capitals (capitals s) ≡ capitals s
capitals-twice [] = refl
capitals-twice (b ∷ s) = ap₂ (λ (x : ℕ) (xs : List ℕ). x ∷ xs) (capital-twice b) (capitals-twice s)

alnum-capital : (b : ℕ) → is_alnum b ≡ true → is_alnum (capital b) ≡ true
unfolding is_alnum is_letter is_capital
alnum-capital b e =
    by (small b)
    (λ t.
    let w = small_is b t in
    let l : 65 ≤ b - 32 = omega arith in
    let g : b - 32 ≤ 90 = omega arith in
    rw (capital-letter b t) (or_right (is_digit (b - 32)) _ (rw (le-leb 65 (b - 32) l, le-leb (b - 32) 90 g))))
    (λ t. rw (capital-other b t) e)

alnums-capital : (s : List ℕ) → all is_alnum s ≡ true → all is_alnum (capitals s) ≡ true
alnums-capital [] e = refl
alnums-capital (b ∷ s) e =
    let w = and-true (is_alnum b) (all is_alnum s) e in
    both (is_alnum (capital b)) (all is_alnum (capitals s)) (alnum-capital b w.0) (alnums-capital s w.1)

-- so many letters or digits
pub are-capital : (k : ℕ) (s : List ℕ) → are_all is_alnum k k s ≡ true → are_all is_alnum k k (capitals s) ≡ true
unfolding are_all
are-capital k s e =
    let a = and-true (leb k (length s) && leb (length s) k) (all is_alnum s) e in
    rw (length-map s capital, a.0, alnums-capital s a.1)

-- no small letter is left
pub capitals-kept : (s : List ℕ) → in_capitals (capitals s) ≡ true
unfolding in_capitals
capitals-kept s = rw (capitals-twice s, same-itself (capitals s))
