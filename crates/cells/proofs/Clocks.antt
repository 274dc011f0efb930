-- A clock as the five bytes that it has, the minutes of intervals, and an interval's two moments. Assumes nothing.
use Prim.Native.Nat.{ℕ, ◌+◌, ◌/◌, ◌%◌, ◌<◌}
use mathlib.Core.Path.{◌≡◌, refl}
use mathlib.Core.Bool.{Bool, true}
use mathlib.Core.List.{List, [], ◌∷◌, ◌++◌}
use native.Mathlib.Nat.{zero-add, div-zero}
use native.Mathlib.Omega.{arith}
use Rattle.ground.specs.Digits.{padded, width, width_from, dec}
use Rattle.ground.specs.Lists.{all, from, same}
use Rattle.ground.proofs.From.{all_from}
use Rattle.ground.proofs.Same.{same-sound}
use Rattle.page.specs.Filled.{Filled}
use Rattle.page.proofs.Filling.{filled-then}
use Rattle.phrase.specs.Phrases.{zero_text, two_text, two_behind, clock_text}
use Rattle.cells.specs.Cells.{field_text}
use Rattle.cells.specs.Moments.{minutes_of, moment_text, start_text, end_text}

abbrev digits : ℕ → List ℕ
digits n = (48 + n / 10) ∷ (48 + n % 10) ∷ []

abbrev is_two : ℕ → Bool
is_two n = same (two_text n) (digits n)

all_two : all is_two (from (λ i. i) 0 100) ≡ true
unfolding from two_text zero_text dec padded width width_from same
all_two = refl

pub two_digits : (n : ℕ) → n < 100 → two_text n ≡ digits n
two_digits n h = same-sound (two_text n) (digits n) (rw zero-add at (all_from is_two (λ i. i) 0 100 n all_two h))

module _ (m : ℕ) {p₀ p₁ : List ℕ} {at i : ℕ} where
  pub clock-put : Filled p₀ at ((48 + m / 60 % 24 / 10) ∷ (48 + m / 60 % 24 % 10) ∷ 58 ∷ (48 + m % 60 / 10) ∷ (48 + m % 60 % 10) ∷ []) i p₁
      → Filled p₀ at (clock_text (m / 60 % 24) (m % 60)) i p₁
  unfolding clock_text two_behind
  clock-put w = rw (two_digits (m / 60 % 24) (omega arith), two_digits (m % 60) (omega arith)) w

pub minutes-none : (k n : ℕ) → n ≡ 0 → 0 ≡ minutes_of k n
unfolding minutes_of
minutes-none k n h = rw (h, div-zero)

pub span-put : (today after : List ℕ) (i n a b : ℕ) {p₀ p₁ p₂ : List ℕ} {at j k : ℕ} → a ≡ minutes_of (i % 288) n → b ≡ minutes_of (i % 288 + 1) n
    → Filled p₀ at (field_text (moment_text today after a)) j p₁ → Filled p₁ j (field_text (moment_text today after b)) k p₂
    → Filled p₀ at (field_text (start_text today after i n) ++ field_text (end_text today after i n)) k p₂
unfolding start_text end_text
span-put today after i n a b ha hb p q = rw (← ha, ← hb) (filled-then p q)
