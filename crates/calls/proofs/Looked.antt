-- What was lent, looked at place by place. Assumes nothing.
use Prim.Native.Nat.{ℕ}
use mathlib.Core.Path.{◌≡◌, refl, ap, ◌∙◌}
use mathlib.Core.Bool.{Bool, ◌&&◌}
use mathlib.Core.List.{List, [], ◌∷◌}
use lib.ListN.{drop}
use lib.Dec.{eqb}
use Rattle.std.specs.List.{list_all}
use Rattle.ground.specs.Lists.{all}
use Rattle.calls.specs.Kept.{kept}

-- a test of every element, in the library's word
pub all_is : (p : ℕ → Bool) (xs : List ℕ) → list_all p xs ≡ all p xs
all_is p [] = refl
all_is p (x ∷ xs) = ap (λ (b : Bool). p x && b) (all_is p xs)

pub kept-all : (mark from : ℕ) (xs : List ℕ) {r : Bool} → r ≡ list_all (λ x. eqb x mark) (drop from xs) → r ≡ kept mark from xs
unfolding kept
kept-all mark from xs e = e ∙ all_is (λ x. eqb x mark) (drop from xs)
