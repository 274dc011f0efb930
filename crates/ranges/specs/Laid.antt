-- What it is for ranges to lie apart, as a proof uses it.
use Rattle.std.specs.Prelude.{ℕ, ◌+◌, ◌≤◌, ◌<◌, ◌≡◌, List, length, get_or}

-- the ranges lie in the first m bytes, no two over one another; one of no bytes may stand anywhere
pub record Laid (os ns : List ℕ) (m : ℕ) : Type 0 where
  pub as_many : length os ≡ length ns
  pub inside : (i : ℕ) → i < length os → 0 < get_or ns i 0 → get_or os i 0 + get_or ns i 0 ≤ m
  pub apart : (i j : ℕ) → i < length os → j < length os → 0 < get_or ns i 0 → 0 < get_or ns j 0 → get_or os i 0 ≤ get_or os j 0 → (i ≡ j → ⊥)
      → get_or os i 0 + get_or ns i 0 ≤ get_or os j 0
