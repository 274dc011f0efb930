-- Where each element of a list has a property. Assumes nothing.
use Prim.Native.Nat.{ℕ, zero, suc, ◌<◌}
use mathlib.Core.List.{List, [], ◌∷◌, ◌++◌}
use native.Mathlib.Omega.{arith}
use lib.ListN.{length, get_or, drop}
use Rattle.theorems.specs.Grammar.{Each}

module _ {X : Type 0} (P : X → Type 0) where
  pub each_append : (xs ys : List X) → Each P xs → Each P ys → Each P (xs ++ ys)
  each_append [] ys h g = g
  each_append (x ∷ xs) ys h g = (h.0, each_append xs ys h.1 g)

  pub each-drop : (k : ℕ) (xs : List X) → Each P xs → Each P (drop k xs)
  each-drop zero xs h = h
  each-drop (suc k) [] h = tt
  each-drop (suc k) (x ∷ xs) h = each-drop k xs h.1

  pub each_at : (d : X) (xs : List X) (i : ℕ) → Each P xs → i < length xs → P (get_or xs i d)
  each_at d [] i h l = absurd (let z : ⊥ = omega arith in z)
  each_at d (x ∷ xs) zero h l = h.0
  each_at d (x ∷ xs) (suc i) h l = each_at d xs i h.1 (omega arith)

-- what follows from the property
pub each-if : {X : Type 0} (P Q : X → Type 0) → ((x : X) → P x → Q x) → (xs : List X) → Each P xs → Each Q xs
each-if P Q f [] h = tt
each-if P Q f (x ∷ xs) h = (f x h.0, each-if P Q f xs h.1)
