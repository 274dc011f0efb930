-- std's sum of what a chain yields is the sum of the list. Assumes nothing.
use Prim.Native.Nat.{ℕ, ◌+◌}
use mathlib.Core.Path.{◌≡◌, refl, ap, ◌∙◌}
use mathlib.Core.List.{List, [], ◌∷◌}
use Rattle.std.specs.List.{sum_by}
use Rattle.std.proofs.lemmas.List.Sums.{sum_by-cons}
use Rattle.ground.specs.Lists.{sum}

pub sum-is : (ns : List ℕ) → sum_by (λ (n : ℕ). n) ns ≡ sum ns
sum-is [] = refl
sum-is (n ∷ ns) = sum_by-cons (λ (n : ℕ). n) n ns ∙ ap (λ (s : ℕ). n + s) (sum-is ns)
