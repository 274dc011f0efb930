-- A row from its parts. Assumes nothing.
use Prim.Native.Nat.{ℕ}
use mathlib.Core.Path.{◌≡◌}
use mathlib.Core.List.{List, [], ◌∷◌, ◌++◌, append_assoc}
use Rattle.format.specs.Block.{value_text, quality_text, reason_text}
use Rattle.page.specs.Filled.{Filled}
use Rattle.page.proofs.Filling.{filled-then, filled-as}
use Rattle.phrase.proofs.Chained.{filled-four}
use Rattle.cells.specs.Cells.{field_text, cell_text}
use Rattle.cells.specs.Moments.{start_text, end_text}
use Rattle.csv_rows.specs.Times.{seconds_text}
use Rattle.csv_rows.specs.Rows.{row_text, interval_text, reading_text}

pub times-put : (from to : ℕ) {p₀ p₁ p₂ p₃ p₄ : List ℕ} {at i j k l : ℕ} → Filled p₀ at (seconds_text from) i p₁ → Filled p₁ i (44 ∷ []) j p₂
    → Filled p₂ j (seconds_text to) k p₃ → Filled p₃ k (44 ∷ []) l p₄ → Filled p₀ at (field_text (seconds_text from) ++ field_text (seconds_text to)) l p₄
unfolding field_text
times-put from to a b c d = filled-then (filled-then a b) (filled-then c d)

grouped : (a b c d e f g h : List ℕ) → a ++ (b ++ c) ++ d ++ (e ++ f ++ (g ++ h)) ≡ a ++ b ++ c ++ d ++ e ++ f ++ g ++ h
grouped a b c d e f g h = simp append_assoc

module _ (front start end : List ℕ) (value : ℕ) (quality reason text : List ℕ) {p₀ p₁ p₂ p₃ p₄ : List ℕ} {at i j k l : ℕ} where
  row_put : Filled p₀ at front i p₁ → Filled p₁ i (field_text start ++ field_text end) j p₂ → Filled p₂ j (field_text (value_text value)) k p₃
      → Filled p₃ k (field_text quality ++ field_text reason ++ (cell_text text ++ 10 ∷ [])) l p₄ → Filled p₀ at (row_text front start end value quality reason text) l p₄
  unfolding row_text
  row_put a b c d =
      filled-as (filled-four a b c d)
      (grouped front (field_text start) (field_text end) (field_text (value_text value)) (field_text quality) (field_text reason) (cell_text text) (10 ∷ []))

module _ (front today after : List ℕ) (i n value flag method code : ℕ) (text : List ℕ) {p₀ p₁ p₂ p₃ p₄ : List ℕ} {at a b c d : ℕ} where
  pub interval-put : Filled p₀ at front a p₁
      → Filled p₁ a (field_text (start_text today after i n) ++ field_text (end_text today after i n)) b p₂
      → Filled p₂ b (field_text (value_text value)) c p₃
      → Filled p₃ c (field_text (quality_text flag method) ++ field_text (reason_text code) ++ (cell_text text ++ 10 ∷ [])) d p₄
      → Filled p₀ at (interval_text front today after i n value flag method code text) d p₄
  unfolding interval_text
  interval-put =
      row_put front (start_text today after i n) (end_text today after i n) value (quality_text flag method) (reason_text code)
      text

module _ (front : List ℕ) (from to value : ℕ) (quality reason text : List ℕ) {p₀ p₁ p₂ p₃ p₄ : List ℕ} {at a b c d : ℕ} where
  pub reading-put : Filled p₀ at front a p₁ → Filled p₁ a (field_text (seconds_text from) ++ field_text (seconds_text to)) b p₂ → Filled p₂ b (field_text (value_text value)) c p₃
      → Filled p₃ c (field_text quality ++ field_text reason ++ (cell_text text ++ 10 ∷ [])) d p₄ → Filled p₀ at (reading_text front from to value quality reason text) d p₄
  unfolding reading_text
  reading-put = row_put front (seconds_text from) (seconds_text to) value quality reason text
