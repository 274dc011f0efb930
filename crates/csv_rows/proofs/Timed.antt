-- A date and a clock as the digits that they have. Assumes nothing.
use Prim.Native.Nat.{ℕ, suc, ◌+◌, ◌/◌, ◌%◌, ◌≤◌, ◌<◌}
use mathlib.Core.Path.{◌≡◌, ap, ◌∙◌}
use mathlib.Core.List.{List, [], ◌∷◌, ◌++◌, append_assoc}
use native.Mathlib.Omega.{arith}
use Rattle.ground.specs.Digits.{padded, width, dec}
use Rattle.ground.proofs.Digits.{width-step, width_small}
use Rattle.page.specs.Filled.{Filled}
use Rattle.page.proofs.Filling.{filled-then, filled-as}
use Rattle.phrase.specs.Phrases.{two_text, two_behind, date_text, clock_text}
use Rattle.cells.proofs.Clocks.{two_digits}
use Rattle.csv_rows.specs.Times.{day_text, seconds_text}

-- a year of four digits
four : (n : ℕ) → 1000 ≤ n → n < 10000 → width n ≡ 4
four n l h =
    width-step n (omega arith) (omega arith)
    ∙ ap suc (width-step (n / 10) (omega arith) (omega arith))
    ∙ ap (λ (w : ℕ). suc (suc w)) (width-step (n / 10 / 10) (omega arith) (omega arith))
    ∙ ap (λ (w : ℕ). suc (suc (suc w))) (width_small (n / 10 / 10 / 10) (omega arith))

year-digits : (d : ℕ) → 10000000 ≤ d → d ≤ 99999999
    → dec (d / 10000) ≡ (48 + d / 10000000) ∷ (48 + d / 1000000 % 10) ∷ (48 + d / 100000 % 10) ∷ (48 + d / 10000 % 10) ∷ []
unfolding dec padded
year-digits d l h =
    let a : d / 10000 / 10 / 10 / 10 % 10 ≡ d / 10000000 = omega arith in
    let b : d / 10000 / 10 / 10 % 10 ≡ d / 1000000 % 10 = omega arith in
    let e : d / 10000 / 10 % 10 ≡ d / 100000 % 10 = omega arith in
    rw (four (d / 10000) (omega arith) (omega arith), a, b, e)

-- two digits among others
two-of : (n a b : ℕ) → n < 100 → n / 10 ≡ a → n % 10 ≡ b → two_text n ≡ (48 + a) ∷ (48 + b) ∷ []
two-of n a b h p q = rw (two_digits n h, p, q)

module _ {p₀ p₁ : List ℕ} {at i : ℕ} where
  pub day-put : (d : ℕ) → 10000000 ≤ d → d ≤ 99999999
      → Filled p₀ at ((48 + d / 10000000) ∷ (48 + d / 1000000 % 10) ∷ (48 + d / 100000 % 10) ∷ (48 + d / 10000 % 10) ∷ 45 ∷ (48 + d / 1000 % 10) ∷ (48 + d / 100 % 10) ∷ 45 ∷ (48 + d / 10 % 10) ∷ (48 + d % 10) ∷ 84 ∷ []) i p₁
      → Filled p₀ at (day_text d) i p₁
  unfolding day_text date_text two_behind
  day-put d l h w =
      rw (
        year-digits d l h,
        two-of (d / 100 % 100) (d / 1000 % 10) (d / 100 % 10) (omega arith) (omega arith) (omega arith),
        two-of (d % 100) (d / 10 % 10) (d % 10) (omega arith) (omega arith) (omega arith),
      )
      w

  pub clock-put : (t : ℕ)
      → Filled p₀ at ((48 + t / 100000 % 10) ∷ (48 + t / 10000 % 10) ∷ 58 ∷ (48 + t / 1000 % 10) ∷ (48 + t / 100 % 10) ∷ 58 ∷ (48 + t / 10 % 10) ∷ (48 + t % 10) ∷ []) i p₁
      → Filled p₀ at (clock_text (t / 10000 % 100) (t / 100 % 100) ++ two_behind 58 (t % 100)) i p₁
  unfolding clock_text two_behind
  clock-put t w =
      rw (
        two-of (t / 10000 % 100) (t / 100000 % 10) (t / 10000 % 10) (omega arith) (omega arith) (omega arith),
        two-of (t / 100 % 100) (t / 1000 % 10) (t / 100 % 10) (omega arith) (omega arith) (omega arith),
        two-of (t % 100) (t / 10 % 10) (t % 10) (omega arith) (omega arith) (omega arith),
      )
      w

grouped : (a b c : List ℕ) → a ++ (b ++ 58 ∷ c) ≡ a ++ b ++ 58 ∷ [] ++ c
grouped a b c = simp append_assoc

pub seconds-put : (t : ℕ) {p₀ p₁ p₂ : List ℕ} {at i j : ℕ} → Filled p₀ at (day_text (t / 1000000)) i p₁
    → Filled p₁ i (clock_text (t / 10000 % 100) (t / 100 % 100) ++ two_behind 58 (t % 100)) j p₂ → Filled p₀ at (seconds_text t) j p₂
unfolding seconds_text two_behind
seconds-put t a b = filled-as (filled-then a b) (grouped (day_text (t / 1000000)) (clock_text (t / 10000 % 100) (t / 100 % 100)) (two_text (t % 100)))
