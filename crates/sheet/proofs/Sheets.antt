-- Lists that are handed in and their numbers, as the code looks at them. Assumes nothing.
use Prim.Native.Nat.{ℕ, zero, suc, ◌+◌, ◌≤◌, ◌<◌}
use mathlib.Core.Path.{◌≡◌, refl, sym, subst, ◌∙◌}
use mathlib.Core.Bool.{Bool}
use mathlib.Core.List.{List}
use native.Mathlib.Omega.{arith}
use denote.Param.Members.{Mut, Called}
use lib.ListN.{get_or}
use lib.Dec.{ltb}
use Rattle.std.specs.Array.{IsFromFnResult, IsFromFnResultFrom}
use Rattle.std.specs.List.{list_all}
use Rattle.ground.proofs.Cases.{same_or}
use Rattle.calls.proofs.Looked.{all_is}
use Rattle.sheet.specs.Sheets.{all_below, Holds}

-- numbers below another
pub below-all : (most : ℕ) (s : List ℕ) {r : Bool} → r ≡ list_all (λ x. ltb x most) s → r ≡ all_below most s
unfolding all_below
below-all most s e = e ∙ all_is (λ x. ltb x most) s

-- the places of a list that a closure made, which gives at each place what f makes of the other list's number there
module _ {F : Type 0} (g : Mut F (ℕ × Unit {0}) ℕ) (p : F) (f : ℕ → ℕ) (list to : List ℕ) (gives : (i v : ℕ) (q : F) → Called g p (i, tt) v q → (q ≡ p) × (v ≡ f (get_or list i 0))) where
  made-at : (n i : ℕ) (q : F) → q ≡ p → IsFromFnResultFrom g q to i n → (j : ℕ) → i ≤ j → j < i + n → get_or to j 0 ≡ f (get_or list j 0)
  made-at zero i q e r j a b = absurd (let z : ⊥ = omega arith in z)
  made-at (suc n) i q e r j a b =
      let given = gives i r.1 r.0 (subst (λ (z : F). Called g z (i, tt) r.1 r.0) e r.3) in
      same_or j i
      (λ same. rw same (r.2.1 0 ∙ given.1))
      (λ other. made-at n (i + 1) r.0 given.0 r.4 j (omega arith) (omega arith))

  pub holds-made : IsFromFnResult g p to 300 → Holds f list to 300
  holds-made r = record { long = sym r.long; is = λ j h. made-at 300 0 p refl r.each j (omega arith) (omega arith) }
