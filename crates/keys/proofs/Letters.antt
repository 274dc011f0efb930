-- Bytes that are handed in held to kept ones, and written as kept ones, letters as capitals, one after the other. Assumes nothing.
use Prim.Native.Nat.{ℕ, ◌+◌, ◌≤◌, ◌<◌}
use mathlib.Core.Path.{◌≡◌, refl, ap}
use mathlib.Core.List.{List, [], ◌∷◌}
use mathlib.Core.Bool.{Bool, ◌&&◌, false}
use native.Mathlib.Omega.{arith}
use Rattle.std.specs.List.{list_all, zip}
use lib.ListN.{length, set, get_or, length-map, get_or-map}
use lib.Seq.{sets}
use lib.Dec.{eqb}
use Rattle.ground.specs.Lists.{same}
use Rattle.ground.proofs.Lists.{unlike}
use Rattle.format.specs.Bytes.{capital}
use Rattle.text.proofs.Loops.{Copied, copied_more, copied_all}
use Rattle.entries.specs.Keys.{capitals}

pub alike-not : (s t : List ℕ) → (length s ≡ length t → ⊥) → false ≡ same (capitals s) t
alike-not s t h = unlike (capitals s) t (λ q. h (omega (arith, length-map s capital)))

-- byte by byte
pub same-zip : (s t : List ℕ) → length s ≡ length t → list_all (λ p. eqb (capital p.0) p.1) (zip s t) ≡ same (capitals s) t
unfolding same
same-zip [] [] e = refl
same-zip [] (y ∷ t) e = absurd (let z : ⊥ = omega arith in z)
same-zip (x ∷ s) [] e = absurd (let z : ⊥ = omega arith in z)
same-zip (x ∷ s) (y ∷ t) e = ap (λ (b : Bool). eqb (capital x) y && b) (same-zip s t (omega arith))

-- ---- capitals: i bytes of them are written

pub length-capitals : (s : List ℕ) → length (capitals s) ≡ length s
length-capitals s = length-map s capital

capital-at : (s : List ℕ) (i : ℕ) → get_or (capitals s) i 0 ≡ capital (get_or s i 0)
unfolding capital
capital-at s i = get_or-map capital s i 0

module _ (l₀ : List ℕ) (at : ℕ) (s : List ℕ) where
  pub capitals-more : (l : List ℕ) (i : ℕ) {b : ℕ} → i < length s → b ≡ capital (get_or s i 0) → Copied l₀ at (capitals s) l i
      → Copied l₀ at (capitals s) (set l (at + i) b) (i + 1)
  capitals-more l i h e r = rw (e, ← capital-at s i) (copied_more l₀ at (capitals s) l i (omega (arith, length-capitals s)) r)

  pub capitals-all : (l : List ℕ) (i : ℕ) → length s ≤ i → Copied l₀ at (capitals s) l i → l ≡ sets l₀ at (capitals s)
  capitals-all l i h r = (copied_all l₀ at (capitals s) l i (omega (arith, length-capitals s)) r).room
