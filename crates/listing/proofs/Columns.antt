-- The columns of a line put one beside the other: two and three of them, and those of parts of a line. Assumes nothing.
use Prim.Native.Nat.{ℕ, ◌+◌, ◌-◌}
use mathlib.Core.Path.{◌≡◌, refl, sym, ap, ◌∙◌}
use mathlib.Core.List.{List, [], ◌∷◌, ◌++◌, append-nil, append_assoc}
use native.Mathlib.Nat.{add-zero, add_assoc}
use lib.ListN.{length, length-append}
use Rattle.page.specs.Filled.{Filled}
use Rattle.page.proofs.Filling.{filled-then, filled-as}
use Rattle.phrase.specs.Phrases.{beside, cell_text, date_text, time_text, right_text, point_text, blank}
use Rattle.phrase.proofs.Chained.{filled_beside}
use Rattle.listing.specs.Lines.{columns, count_columns, row_text}
use Rattle.listing.specs.Slots.{slot_text}
use Rattle.measures.specs.declared.counts.Counts.{Counts}

-- the last column
one : (f : ℕ → List ℕ) {p₀ p₁ : List ℕ} {at i : ℕ} → Filled p₀ at (f at) i p₁ → Filled p₀ at (columns (f ∷ []) at) i p₁
unfolding columns beside
one f {at = at} a = filled-as a (sym (append-nil (f at)))

-- a column before others
more : (f : ℕ → List ℕ) (fs : List (ℕ → List ℕ)) {p₀ p₁ p₂ : List ℕ} {at i j : ℕ} → Filled p₀ at (f at) i p₁ → Filled p₁ i (columns fs i) j p₂
    → Filled p₀ at (columns (f ∷ fs) at) j p₂
unfolding columns
more f fs a b = filled_beside (columns fs) a b

module _ (f g : ℕ → List ℕ) {p₀ p₁ p₂ : List ℕ} {at i j : ℕ} where
  pub two-columns : Filled p₀ at (f at) i p₁ → Filled p₁ i (g i) j p₂ → Filled p₀ at (columns (f ∷ g ∷ []) at) j p₂
  two-columns a b = more f (g ∷ []) a (one g b)

module _ (f g h : ℕ → List ℕ) {p₀ p₁ p₂ p₃ : List ℕ} {at i j k : ℕ} where
  pub three-columns : Filled p₀ at (f at) i p₁ → Filled p₁ i (g i) j p₂ → Filled p₂ j (h j) k p₃ → Filled p₀ at (columns (f ∷ g ∷ h ∷ []) at) k p₃
  three-columns a b c = more f (g ∷ h ∷ []) a (two-columns g h b c)

columns-beside : (fs gs : List (ℕ → List ℕ)) (at : ℕ) → beside at (columns fs at) (columns gs) ≡ columns (fs ++ gs) at
unfolding columns beside
columns-beside [] gs at = ap (columns gs) (add-zero at)
columns-beside (f ∷ fs) gs at =
    let e : at + length (f at ++ columns fs (at + length (f at))) ≡ at + length (f at) + length (columns fs (at + length (f at))) =
    ap (λ (k : ℕ). at + k) (length-append (f at) (columns fs (at + length (f at)))) ∙ sym (add_assoc at (length (f at)) (length (columns fs (at + length (f at))))) in
    append_assoc (f at) (columns fs (at + length (f at))) (columns gs (at + length (f at ++ columns fs (at + length (f at)))))
    ∙ ap (λ (z : List ℕ). f at ++ z) (ap (λ (k : ℕ). columns fs (at + length (f at)) ++ columns gs k) e ∙ columns-beside fs gs (at + length (f at)))

pub joined : (fs gs : List (ℕ → List ℕ)) {p₀ p₁ p₂ : List ℕ} {at i j : ℕ} → Filled p₀ at (columns fs at) i p₁ → Filled p₁ i (columns gs i) j p₂
    → Filled p₀ at (columns (fs ++ gs) at) j p₂
joined fs gs {at = at} a b = filled-as (filled_beside (columns gs) a b) (columns-beside fs gs at)

-- a text that is put behind the spaces before its column
pub text-put : (to : ℕ) (t : List ℕ) {p₀ p₁ p₂ : List ℕ} {at i j : ℕ} → Filled p₀ at (cell_text to [] at) i p₁ → Filled p₁ i t j p₂ → Filled p₀ at (cell_text to t at) j p₂
unfolding cell_text
text-put to t {at = at} a b = filled-then (filled-as a (append-nil (blank (to - at)))) b

module _ (c : Counts) {p₀ p₁ p₂ : List ℕ} {at i j : ℕ} where
  pub counts-put : Filled p₀ at (columns (right_text 87 c.actual ∷ right_text 97 c.estimated ∷ []) at) i p₁
      → Filled p₁ i (columns (right_text 103 c.final_substituted ∷ right_text 115 c.substituted ∷ right_text 120 c.null ∷ []) i) j p₂
      → Filled p₀ at (columns (count_columns c) at) j p₂
  counts-put =
      joined (right_text 87 c.actual ∷ right_text 97 c.estimated ∷ [])
      (right_text 103 c.final_substituted ∷ right_text 115 c.substituted ∷ right_text 120 c.null ∷ [])

module _ (day channel : ℕ) (nmi suffix : List ℕ) (date minutes sum : ℕ) (unit : List ℕ) (counts : Counts) {p₀ p₁ p₂ p₃ p₄ : List ℕ} {at i j k l : ℕ} where
  pub row_put : Filled p₀ at (columns (right_text 6 day ∷ right_text 15 channel ∷ []) at) i p₁
      → Filled p₁ i (columns (cell_text 17 nmi ∷ cell_text 29 suffix ∷ cell_text 37 (date_text date) ∷ []) i) j p₂
      → Filled p₂ j (columns (right_text 56 minutes ∷ point_text 67 sum ∷ cell_text 75 unit ∷ []) j) k p₃ → Filled p₃ k (columns (count_columns counts) k) l p₄
      → Filled p₀ at (row_text day channel nmi suffix date minutes sum unit counts at) l p₄
  unfolding row_text
  row_put a b c d =
      joined (right_text 6 day ∷ right_text 15 channel ∷ cell_text 17 nmi ∷ cell_text 29 suffix ∷ cell_text 37 (date_text date) ∷ right_text 56 minutes ∷ point_text 67 sum ∷ cell_text 75 unit ∷ [])
      (count_columns counts)
      (joined (right_text 6 day ∷ right_text 15 channel ∷ cell_text 17 nmi ∷ cell_text 29 suffix ∷ cell_text 37 (date_text date) ∷ []) (right_text 56 minutes ∷ point_text 67 sum ∷ cell_text 75 unit ∷ [])
      (joined (right_text 6 day ∷ right_text 15 channel ∷ []) (cell_text 17 nmi ∷ cell_text 29 suffix ∷ cell_text 37 (date_text date) ∷ []) a b) c)
      d

module _ (slot : ℕ) (nmi suffix : List ℕ) (date minutes : ℕ) (unit : List ℕ) (update size : ℕ) {p₀ p₁ p₂ p₃ : List ℕ} {at i j k : ℕ} where
  pub slot-put : Filled p₀ at (columns (right_text 4 slot ∷ cell_text 6 nmi ∷ cell_text 18 suffix ∷ []) at) i p₁
      → Filled p₁ i (columns (cell_text 26 (date_text date) ∷ right_text 45 minutes ∷ cell_text 47 unit ∷ []) i) j p₂
      → Filled p₂ j (columns (cell_text 54 (time_text update) ∷ right_text 80 size ∷ []) j) k p₃
      → Filled p₀ at (slot_text slot nmi suffix date minutes unit update size at) k p₃
  unfolding slot_text
  slot-put a b c =
      joined (right_text 4 slot ∷ cell_text 6 nmi ∷ cell_text 18 suffix ∷ cell_text 26 (date_text date) ∷ right_text 45 minutes ∷ cell_text 47 unit ∷ [])
      (cell_text 54 (time_text update) ∷ right_text 80 size ∷ [])
      (joined (right_text 4 slot ∷ cell_text 6 nmi ∷ cell_text 18 suffix ∷ []) (cell_text 26 (date_text date) ∷ right_text 45 minutes ∷ cell_text 47 unit ∷ []) a b)
      c
