-- A line of four columns. Assumes nothing.
use Prim.Native.Nat.{ℕ}
use mathlib.Core.List.{List, [], ◌∷◌}
use Rattle.page.specs.Filled.{Filled}
use Rattle.listing.specs.Lines.{columns}
use Rattle.listing.proofs.Columns.{two-columns, joined}

module _ (f g h k : ℕ → List ℕ) {p₀ p₁ p₂ p₃ p₄ : List ℕ} {at i j l m : ℕ} where
  pub four-columns : Filled p₀ at (f at) i p₁ → Filled p₁ i (g i) j p₂ → Filled p₂ j (h j) l p₃ → Filled p₃ l (k l) m p₄
      → Filled p₀ at (columns (f ∷ g ∷ h ∷ k ∷ []) at) m p₄
  four-columns w x y z = joined (f ∷ g ∷ []) (h ∷ k ∷ []) (two-columns f g w x) (two-columns h k y z)
