-- What is shown of a day, from its parts. Assumes nothing.
use Prim.Native.Nat.{ℕ, ◌+◌, ◌%◌}
use mathlib.Core.Path.{◌≡◌, sym, ap, ◌∙◌}
use mathlib.Core.List.{List, [], ◌∷◌}
use borrow.Author.Tests.{eq-eqb, ne_eqb}
use lib.ListN.{get_or}
use Rattle.format.specs.Answers.{checked_as}
use Rattle.format.specs.File.{check_of}
use Rattle.format.specs.declared.Checked.{Checked}
use Rattle.std.proofs.Common.{Result, Ok, Err}
use Rattle.format.specs.declared.DayHead.{DayHead}
use Rattle.format.specs.declared.Refusal.{Refusal}
use Rattle.page.specs.Filled.{Filled}
use Rattle.page.proofs.Filling.{filled-then, filled-as}
use Rattle.tables.specs.Days.{title_text, headings, row_text}
use Rattle.phrase.specs.Phrases.{line_text}
use Rattle.records.specs.Records.{text_at}
use Rattle.explain.specs.Said.{explanation}
use Rattle.day_rows.specs.Shown.{no_day, no_day_text, refused_text, top_text, interval_row, minutes_of}

-- ---- why there is none

module _ (file : List ℕ) {x : Result Checked Refusal} {p₀ p₁ : List ℕ} {i : ℕ} (e : checked_as x ≡ check_of file) where
  pub no-day-there : (c : Checked) → x ≡ Ok c → Filled p₀ 0 (no_day c.days) i p₁ → Filled p₀ 0 (no_day_text file (check_of file)) i p₁
  no-day-there c h w = filled-as w (ap (λ (z : Result Checked Refusal). no_day_text file (checked_as z)) (sym h) ∙ ap (no_day_text file) e)

  pub no-day-refused : (y : Refusal) → x ≡ Err y → Filled p₀ 0 (explanation file y) i p₁ → Filled p₀ 0 (no_day_text file (check_of file)) i p₁
  no-day-refused y h w = filled-as w (ap (λ (z : Result Checked Refusal). no_day_text file (checked_as z)) (sym h) ∙ ap (no_day_text file) e)

module _ (file : List ℕ) (x : Refusal) {p₀ p₁ : List ℕ} {i : ℕ} where
  pub refused-other : (x.number ≡ 14 → ⊥) → Filled p₀ 0 (explanation file x) i p₁ → Filled p₀ 0 (refused_text file x) i p₁
  unfolding refused_text
  refused-other h w = rw (ne_eqb _ _ h) w

  pub refused-14 : x.number ≡ 14 → Filled p₀ 0 (no_day_text file (check_of file)) i p₁ → Filled p₀ 0 (refused_text file x) i p₁
  unfolding refused_text
  refused-14 h w = rw (eq-eqb _ _ h) w

-- ---- the table

pub top-put : {p₀ p₁ p₂ p₃ p₄ : List ℕ} {i j k l : ℕ} (day : DayHead) (n : ℕ) → Filled p₀ 0 (title_text day n) i p₁ → Filled p₁ i (10 ∷ []) j p₂
    → Filled p₂ j headings k p₃ → Filled p₃ k (10 ∷ []) l p₄ → Filled p₀ 0 (top_text day n) l p₄
unfolding top_text line_text
top-put day n a b c d = filled-then (filled-then a b) (filled-then c d)

pub row_put : (file : List ℕ) (i n : ℕ) (vs fs ms rs ss ls : List ℕ) {p₀ p₁ p₂ : List ℕ} {j k : ℕ} (v f m r s w : ℕ) {t : List ℕ}
    → v ≡ get_or vs i 0 → f ≡ get_or fs i 0 → m ≡ get_or ms i 0 → r ≡ get_or rs i 0 → s ≡ get_or ss i 0 → w ≡ get_or ls i 0 → t ≡ text_at file s w
    → Filled p₀ 0 (row_text (i % 288 + 1) n v f m r t 0) j p₁ → Filled p₁ j (10 ∷ []) k p₂ → Filled p₀ 0 (interval_row file i n vs fs ms rs ss ls) k p₂
unfolding interval_row line_text
row_put file i n vs fs ms rs ss ls v f m r s w hv hf hm hr hs hw ht a b = rw (← hv, ← hf, ← hm, ← hr, ← hs, ← hw, ← ht) (filled-then a b)

-- ---- minutes

pub minutes-five : (n : ℕ) → n ≡ 288 → 5 ≡ minutes_of n
unfolding minutes_of
minutes-five n h = rw h

pub minutes-fifteen : (n : ℕ) → n ≡ 96 → 15 ≡ minutes_of n
unfolding minutes_of
minutes-fifteen n h = rw h

pub minutes-thirty : (n : ℕ) → (n ≡ 288 → ⊥) → (n ≡ 96 → ⊥) → 30 ≡ minutes_of n
unfolding minutes_of
minutes-thirty n h g = rw (ne_eqb _ _ h, ne_eqb _ _ g)
