-- Tests of bytes as the library's methods have them. Assumes nothing.
use mathlib.Core.Path.{◌≡◌, refl, ap}
use mathlib.Core.Bool.{Bool, ◌&&◌, ◌||◌}
use mathlib.Core.List.{List, [], ◌∷◌}
use Prim.Native.Nat.{ℕ}
use lib.Dec.{leb}
use Rattle.std.specs.List.{list_all}
use Rattle.std.proofs.Math.Bool.{or_assoc}
use Rattle.ground.specs.Lists.{all}
use Rattle.ground.specs.Digits.{is_digit}
use Rattle.format.specs.Bytes.{is_capital, is_letter, is_alnum}

-- a letter or a digit, grouped as `is_ascii_alphanumeric` groups it
pub alnum-is : (b : ℕ) → ((is_digit b || is_capital b) || (leb 97 b && leb b 122)) ≡ is_alnum b
unfolding is_alnum is_letter
alnum-is b = or_assoc (is_digit b) (is_capital b) (leb 97 b && leb b 122)

-- a test of every byte, as `Iterator::all` has it
pub all-is : (p : ℕ → Bool) (s : List ℕ) → list_all p s ≡ all p s
all-is p [] = refl
all-is p (b ∷ s) = ap (λ r. p b && r) (all-is p s)
