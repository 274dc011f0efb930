-- Values of the commonest shape in a row, and what a test of all their bytes at once asks.
use Rattle.std.specs.Prelude.{ℕ, ◌+◌, ◌*◌, ◌<◌, ◌≡◌, List, [], ◌∷◌, Bool, true, ◌&&◌, get_or, leb}
use Rattle.ground.specs.Lists.{part}
use Rattle.quick_values.specs.Shapes.{is_thousandths}

-- every byte of a list is at least the byte of another list at its place
abbrev pub no_less : List ℕ → List ℕ → Bool
no_less [] t = true
no_less (b ∷ s) [] = true
no_less (b ∷ s) (c ∷ t) = leb c b && no_less s t

-- k values of the commonest shape stand at x, with a comma behind each
abbrev pub Alike : List ℕ → ℕ → ℕ → Type 0
Alike file x k = (j : ℕ) → j < k → (is_thousandths (part file (x + 6 * j) (x + 6 * j + 5)) ≡ true) × (get_or file (x + 6 * j + 5) 0 ≡ 44)
