-- Letters held to letters, whatever their case: as the library tells it, and as the format does. Assumes nothing.
use Prim.Native.Nat.{ℕ}
use mathlib.Core.Path.{◌≡◌, refl, sym, ap, ◌∙◌}
use mathlib.Core.List.{List, [], ◌∷◌, map}
use mathlib.Core.Bool.{Bool, true, false, false≢true}
use native.Mathlib.Omega.{arith}
use borrow.Author.Tests.{eqb-true, eq-eqb}
use lib.Dec.{eqb}
use Rattle.std.specs.Char.{to_ascii_lowercase}
use Rattle.std.proofs.lemmas.Bool.Decides.{nat_tests}
use Rattle.ground.specs.Lists.{same}
use Rattle.ground.proofs.Tests.{and-true, refuted}
use Rattle.format.specs.Bytes.{capital}
use Rattle.format.specs.Units.{same_letters}

small : (x y : ℕ) → capital x ≡ capital y → to_ascii_lowercase x ≡ to_ascii_lowercase y
unfolding capital
small x y e = grind (arith, nat_tests)

large : (x y : ℕ) → to_ascii_lowercase x ≡ to_ascii_lowercase y → capital x ≡ capital y
unfolding capital
large x y e = grind (arith, nat_tests)

alike : (s t : List ℕ) → same (map capital s) (map capital t) ≡ true → map to_ascii_lowercase s ≡ map to_ascii_lowercase t
unfolding same
alike [] [] e = refl
alike [] (y ∷ t) e = absurd (false≢true e)
alike (x ∷ s) [] e = absurd (false≢true e)
alike (x ∷ s) (y ∷ t) e =
    let w = and-true (eqb (capital x) (capital y)) (same (map capital s) (map capital t)) e in
    ap (λ (z : ℕ). z ∷ map to_ascii_lowercase s) (small x y (eqb-true _ _ w.0)) ∙ ap (λ (z : List ℕ). to_ascii_lowercase y ∷ z) (alike s t w.1)

alike_back : (s t : List ℕ) → map to_ascii_lowercase s ≡ map to_ascii_lowercase t → same (map capital s) (map capital t) ≡ true
unfolding same
alike_back [] [] e = refl
alike_back [] (y ∷ t) e = cc
alike_back (x ∷ s) [] e = cc
alike_back (x ∷ s) (y ∷ t) e = rw (eq-eqb (capital x) (capital y) (large x y (cc))) (alike_back s t (cc))

-- r is what the library answers
pub letters-are : (s t : List ℕ) {r : Bool} → (r ≡ true → map to_ascii_lowercase s ≡ map to_ascii_lowercase t)
    → (map to_ascii_lowercase s ≡ map to_ascii_lowercase t → r ≡ true) → r ≡ same_letters s t
unfolding same_letters
letters-are s t {r = true} h k = sym (alike_back s t (h refl))
letters-are s t {r = false} h k = refuted (same (map capital s) (map capital t)) (λ e. false≢true (k (alike s t e)))
