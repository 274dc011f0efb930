-- How long a record is, by its fields. Assumes nothing.
use Prim.Native.Nat.{ℕ, ◌+◌, ◌≤◌}
use mathlib.Core.Path.{◌≡◌, sym, ap, ◌∙◌}
use mathlib.Core.List.{List, [], ◌∷◌, ◌++◌}
use native.Mathlib.Omega.{arith}
use lib.ListN.{length, length-append}
use Rattle.format.specs.Cut.{fields}
use Rattle.format.proofs.Cut.{fields-some}
use Rattle.theorems.specs.Grammar.{Record, join}
use Rattle.theorems.proofs.Bytes.{join-fields}

-- every field with the byte behind it
unfoldable pub size : Record → ℕ
size [] = 0
size (f ∷ fs) = length f + 1 + size fs

pub size-append : (xs ys : Record) → size (xs ++ ys) ≡ size xs + size ys
unfolding size
size-append [] ys = omega arith
size-append (x ∷ xs) ys = omega (arith, size-append xs ys)

pub length-join : (fs : Record) → 1 ≤ length fs → length (join fs) + 1 ≡ size fs
unfolding join size
length-join [] h = absurd (let z : ⊥ = omega arith in z)
length-join (f ∷ []) h = omega arith
length-join (f ∷ g ∷ fs) h = omega (arith, length-append f (44 ∷ join (g ∷ fs)), length-join (g ∷ fs) (omega arith))

pub length-record : (r : List ℕ) → length r + 1 ≡ size (fields r)
length-record r = ap (λ (s : List ℕ). length s + 1) (sym (join-fields r)) ∙ length-join (fields r) (fields-some r)
