-- A line has a field more than commas. Assumes nothing.
use Prim.Native.Nat.{ℕ, suc, ◌+◌}
use mathlib.Core.Path.{◌≡◌, refl, sym, ap, ◌∙◌}
use mathlib.Core.Bool.{Bool, true, false}
use mathlib.Core.List.{List, [], ◌∷◌}
use native.Mathlib.Nat.{zero-add}
use native.Mathlib.Omega.{arith}
use borrow.Author.Tests.{eq-eqb, ne_eqb}
use lib.ListN.{length, take}
use lib.Dec.{eqb}
use lib.Seq.{take_all}
use Rattle.ground.proofs.Cases.{same_or}
use Rattle.format.specs.Cut.{fields, on_field}
use Rattle.measures.specs.Counts.{one, count_of}

-- a byte in front of the first field adds none
same-fields : (b : ℕ) (fs : List (List ℕ)) (n : ℕ) → length fs ≡ suc n → length (on_field b fs) ≡ suc n
same-fields b [] n e = absurd (let z : ⊥ = omega arith in z)
same-fields b (f ∷ fs) n e = e

by-comma : (b : ℕ) (s : List ℕ) (c : Bool) → eqb b 44 ≡ c → length (fields s) ≡ suc (count_of 44 s)
    → length (fields (b ∷ s)) ≡ suc (count_of 44 (b ∷ s))
unfolding fields count_of one
by-comma b s true e h = rw e (ap suc (let z : length (fields s) ≡ 1 + count_of 44 s = omega (arith, h) in z))
by-comma b s false e h = rw (e, zero-add) (same-fields b (fields s) (count_of 44 s) h)

fields-more : (s : List ℕ) → length (fields s) ≡ suc (count_of 44 s)
unfolding fields count_of
fields-more [] = refl
fields-more (b ∷ s) = by-comma b s (eqb b 44) refl (fields-more s)

-- as the code counts them
pub four-fields : (s : List ℕ) {n : ℕ} → n ≡ count_of 44 (take (length s) s) → eqb n 3 ≡ eqb (length (fields s)) 4
four-fields s {n} e =
    let k : length (fields s) ≡ suc n = fields-more s ∙ ap suc (sym (e ∙ ap (count_of 44) (take_all (length s) s (omega arith)))) in
    same_or n 3
    (λ h. rw (eq-eqb n 3 h, eq-eqb (length (fields s)) 4 (omega arith)))
    (λ h. rw (ne_eqb n 3 h, ne_eqb (length (fields s)) 4 (λ g. h (omega arith))))
