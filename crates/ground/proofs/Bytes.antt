-- Bytes that pass a test and those that are not among them; a list of bytes by its elements. Assumes nothing.
use Prim.Native.Nat.{ℕ, zero, suc, ◌+◌}
use mathlib.Core.Path.{◌≡◌, refl, sym, ◌∙◌, ap, subst}
use mathlib.Core.Bool.{Bool, true, false, not, ◌&&◌, false≢true}
use mathlib.Core.List.{List, [], ◌∷◌}
use native.Mathlib.Omega.{arith}
use lib.ListN.{length, get_or, drop, drop_of_length-le}
use lib.Seq.{drop-cons}
use lib.Dec.{eqb}
use borrow.Author.Tests.{eqb-true}
use Rattle.ground.specs.Lists.{all, other, from}
use Rattle.ground.specs.Digits.{is_digit}
use Rattle.ground.proofs.Tests.{and-true}

-- a byte that does not pass the test is not among bytes that all do
pub holds-none : (x : ℕ) (p : ℕ → Bool) → p x ≡ false → (s : List ℕ) → all p s ≡ true → all (other x) s ≡ true
holds-none x p n [] h = refl
holds-none x p n (b ∷ s) h =
    let t = and-true (p b) (all p s) h in
    rw (holds-none x p n s t.1) (go (eqb b x) refl t.0)
  where
    go : (c : Bool) → eqb b x ≡ c → p b ≡ true → not c && true ≡ true
    go true e q = absurd (false≢true (sym n ∙ rw (eqb-true b x e) at q))
    go false e q = refl

pub digits-plain : (s : List ℕ) → all is_digit s ≡ true → all (other 44) s ≡ true
unfolding is_digit
digits-plain s h = holds-none 44 is_digit refl s h

spell : (k i : ℕ) (s : List ℕ) → i + k ≡ length s → from (λ j. get_or s j 0) i k ≡ drop i s
unfolding from
spell zero i s h = sym (drop_of_length-le s {i = i} (omega arith))
spell (suc k) i s h = rw (drop-cons s i 0 (omega arith)) (ap (λ (l : List ℕ). get_or s i 0 ∷ l) (spell k (suc i) s (omega arith)))

-- what holds of n elements in a row holds of a list of n elements
pub spelled : (P : List ℕ → Type 0) (n : ℕ) (s : List ℕ) → length s ≡ n → P (from (λ i. get_or s i 0) 0 n) → P s
spelled P n s e h = subst P (spell n 0 s (omega arith)) h
