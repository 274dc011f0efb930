-- The line of an interval whose end is known, and its mark. Assumes nothing.
use Prim.Native.Nat.{ℕ}
use mathlib.Core.Path.{◌≡◌}
use mathlib.Core.List.{List}
use Rattle.page.specs.Filled.{Filled}
use Rattle.phrase.proofs.Chained.{filled_beside}
use Rattle.tables.specs.Days.{end_of, front_text, quality_text, quality_name_text, reason_text, description_text, mark_text, row_text}

pub mark-put : (flag method code : ℕ) (t : List ℕ) {p₀ p₁ p₂ p₃ p₄ : List ℕ} {at i j k e : ℕ} → Filled p₀ at (quality_text flag method at) i p₁
    → Filled p₁ i (quality_name_text flag i) j p₂ → Filled p₂ j (reason_text code j) k p₃ → Filled p₃ k (description_text t k) e p₄ → Filled p₀ at (mark_text flag method code t at) e p₄
unfolding mark_text
mark-put flag method code t p q r s = filled_beside (description_text t) (filled_beside (reason_text code) (filled_beside (quality_name_text flag) p q) r) s

pub row_put : (k n e value flag method code : ℕ) (t : List ℕ) {p₀ p₁ p₂ : List ℕ} {at i j : ℕ} → e ≡ end_of k n
    → Filled p₀ at (front_text k e value at) i p₁ → Filled p₁ i (mark_text flag method code t i) j p₂ → Filled p₀ at (row_text k n value flag method code t at) j p₂
unfolding row_text
row_put k n e value flag method code t h p q = rw (← h) (filled_beside (mark_text flag method code t) p q)
