-- What the library's methods answer of bytes, as the meaning has it. Assumes nothing.
use mathlib.Core.Path.{◌≡◌, refl, ap, ◌∙◌}
use mathlib.Core.Bool.{Bool, cond, ◌&&◌}
use mathlib.Core.List.{List, [], ◌∷◌}
use Prim.Native.Nat.{ℕ, suc, ◌+◌}
use native.Mathlib.Omega.{arith}
use lib.ListN.{length, get_or}
use lib.Dec.{eqb, ltb}
use lib.Pointwise.{pointwise}
use borrow.Author.Tests.{lt-ltb, le-ltb}
use denote.Ref.{Bor}
use Rattle.std.specs.Option.{unwrap_or, option_eq, option_copied}
use Rattle.std.specs.Prelude.{Option, Some, None}
use Rattle.std.specs.List.{position_or_len, slice_get}
use Rattle.std.proofs.lemmas.Option.{unwrap_or-slice_get}
use Rattle.ground.specs.Lists.{span_of, other, same}
use Rattle.ground.proofs.Cases.{split}
use Rattle.ground.proofs.Spans.{span-le}

pub pointwise-same : (s t : List ℕ) → pointwise eqb s t ≡ same s t
unfolding same
pointwise-same [] [] = refl
pointwise-same [] (y ∷ t) = refl
pointwise-same (x ∷ s) [] = refl
pointwise-same (x ∷ s) (y ∷ t) = ap (λ r. eqb x y && r) (pointwise-same s t)

module _ (x : ℕ) where
  position-is : (s : List ℕ) → position_or_len (λ b. eqb b x) s ≡ span_of (other x) s
  unfolding span_of
  position-is [] = refl
  position-is (b ∷ s) = let e : 1 + position_or_len (λ y. eqb y x) s ≡ suc (span_of (other x) s) = omega (arith, position-is s) in ap (λ n. cond (other x b) n 0) e

  -- r is what `Iterator::position` answers
  pub first-is : (s : List ℕ) {r : Option ℕ}
      → r ≡ cond (ltb (position_or_len (λ b. eqb b x) s) (length s)) (Some (position_or_len (λ b. eqb b x) s)) None → unwrap_or r (length s) ≡ span_of (other x) s
  first-is s {r} e =
      split (length s) (span_of (other x) s)
      (λ h. let k : length s ≡ span_of (other x) s = omega (arith, span-le (other x) s) in
      let q : r ≡ None = e ∙ rw (position-is s, le-ltb _ _ h) in
      rw q k)
      (λ h. let q : r ≡ Some (span_of (other x) s) = e ∙ rw (position-is s, lt-ltb _ _ h) in
      rw q)

-- b tells whether r, which is what stands at i, is a space
space-is : (r : Option (Bor ℕ)) (w : Bor ℕ) → w.now ≡ 32 → option_eq (λ x y. eqb x.now y.now) r (Some w) ≡ eqb (unwrap_or (option_copied r) 0) 32
space-is None w e = refl
space-is (Some x) w e = rw e

module _ (s : List ℕ) (i : ℕ) (r : Option (Bor ℕ)) (w : Bor ℕ) {b : Bool} where
  pub space-at : b ≡ option_eq (λ x y. eqb x.now y.now) r (Some w) → w.now ≡ 32 → option_copied r ≡ slice_get s i → b ≡ eqb (get_or s i 0) 32
  space-at e q g = e ∙ space-is r w q ∙ rw (g, unwrap_or-slice_get s i 0)
