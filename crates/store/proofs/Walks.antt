-- A walk over the used slots, slot by slot: a test of each, and a test of each with those behind it. Assumes nothing.
use Prim.Native.Nat.{ℕ, suc, ◌+◌, ◌-◌, ◌≤◌, ◌<◌}
use mathlib.Core.Path.{◌≡◌, refl, sym, ap, ◌∙◌}
use mathlib.Core.Bool.{Bool, true, false, cond, not, ◌&&◌}
use mathlib.Core.List.{List, [], ◌∷◌}
use native.Mathlib.Nat.{sub-zero}
use native.Mathlib.Numerals.{add-one}
use native.Mathlib.Omega.{arith}
use borrow.Author.Tests.{not-true, not-false}
use Rattle.ground.specs.Lists.{all}
use Rattle.store.specs.Used.{used, used_from}
use Rattle.store.specs.Store.{pairwise}

-- the used slots among n, from slot i on
abbrev pub used_behind : ℕ → ℕ → ℕ → List ℕ
used_behind map n i = used_from map i (n - i)

-- at slot i
module _ (map n i : ℕ) (h : i < n) where
  left : n - i ≡ suc (n - (i + 1))
  left = omega arith

  pub used-here : used map i ≡ true → used_behind map n i ≡ i ∷ used_behind map n (i + 1)
  unfolding used_from
  used-here t = rw (left, t, add-one i)

  pub free-here : used map i ≡ false → used_behind map n i ≡ used_behind map n (i + 1)
  unfolding used_from
  free-here t = rw (left, t, add-one i)

none_left : (map n i : ℕ) → n ≤ i → used_behind map n i ≡ []
unfolding used_from
none_left map n i h = let z : n - i ≡ 0 = omega arith in rw z

from_first : (map n : ℕ) → used_behind map n 0 ≡ used_from map 0 n
from_first map n = rw sub-zero

-- a test F of a list that asks q of its first and of those behind it, and F of those: from slot j on, all before slot i passed
pub record Walked (F : List ℕ → Bool) (map n j i : ℕ) : Type 0 where
  pub from : j ≤ i
  pub same : F (used_behind map n i) ≡ F (used_behind map n j)

module _ (F : List ℕ → Bool) (q : ℕ → List ℕ → Bool) (none : F [] ≡ true) (more : (x : ℕ) (xs : List ℕ) → F (x ∷ xs) ≡ (q x xs && F xs)) (map n j : ℕ) where
  -- what is asked at slot i
  asked : ℕ → Bool
  asked i = cond (used map i) (q i (used_behind map n (i + 1))) true

  one : (i : ℕ) → i < n → (b : Bool) → used map i ≡ b → F (used_behind map n i) ≡ (cond b (q i (used_behind map n (i + 1))) true && F (used_behind map n (i + 1)))
  one i h true t = rw (used-here map n i h t) (more i (used_behind map n (i + 1)))
  one i h false t = rw (free-here map n i h t)

  walked_more : (i : ℕ) {b : Bool} → i < n → b ≡ asked i → not b ≡ false → Walked F map n j i → Walked F map n j (i + 1)
  unfolding asked
  walked_more i {b} h e t r =
      let o : F (used_behind map n i) ≡ F (used_behind map n (i + 1)) = one i h (used map i) refl ∙ rw (← e, not-false b t) in
      record { from = omega (arith, r.from); same = sym o ∙ r.same }

  walked-stops : (i : ℕ) {b : Bool} → i < n → b ≡ asked i → not b ≡ true → Walked F map n j i → false ≡ F (used_behind map n j)
  unfolding asked
  walked-stops i {b} h e t r =
      let o : F (used_behind map n i) ≡ false = one i h (used map i) refl ∙ rw (← e, not-true b t) in
      sym o ∙ r.same

  walked_all : (i : ℕ) → n ≤ i → Walked F map n j i → true ≡ F (used_behind map n j)
  walked_all i h r = sym (rw (none_left map n i h) none) ∙ r.same

-- ---- each of the used slots passes a test

module _ (p : ℕ → Bool) (map n j : ℕ) where
  pub each_none : Walked (all p) map n j j
  each_none = record { from = omega arith; same = refl }

  pub each_more : (i : ℕ) {b : Bool} → i < n → b ≡ cond (used map i) (p i) true → not b ≡ false → Walked (all p) map n j i → Walked (all p) map n j (i + 1)
  unfolding asked
  each_more i h e t r = walked_more (all p) (λ x xs. p x) refl (λ x xs. refl) map n j i h e t r

  pub each-stops : (i : ℕ) {b : Bool} → i < n → b ≡ cond (used map i) (p i) true → not b ≡ true → Walked (all p) map n j i → false ≡ all p (used_behind map n j)
  unfolding asked
  each-stops i h e t r = walked-stops (all p) (λ x xs. p x) refl (λ x xs. refl) map n j i h e t r

  pub each_all : (i : ℕ) → n ≤ i → Walked (all p) map n j i → true ≡ all p (used_behind map n j)
  each_all i h r = walked_all (all p) (λ x xs. p x) refl (λ x xs. refl) map n j i h r

-- from the first slot on
module _ (p : ℕ → Bool) (map n : ℕ) where
  pub used-stops : (i : ℕ) {b : Bool} → i < n → b ≡ cond (used map i) (p i) true → not b ≡ true → Walked (all p) map n 0 i → false ≡ all p (used_from map 0 n)
  used-stops i h e t r = each-stops p map n 0 i h e t r ∙ ap (all p) (from_first map n)

  pub used_all : (i : ℕ) → n ≤ i → Walked (all p) map n 0 i → true ≡ all p (used_from map 0 n)
  used_all i h r = each_all p map n 0 i h r ∙ ap (all p) (from_first map n)

-- ---- each of the used slots passes a test with each one behind it

first-pair : (p : ℕ → ℕ → Bool) (x : ℕ) (xs : List ℕ) → pairwise p (x ∷ xs) ≡ (all (p x) xs && pairwise p xs)
unfolding pairwise
first-pair p x xs = refl

no-pair : (p : ℕ → ℕ → Bool) → pairwise p [] ≡ true
unfolding pairwise
no-pair p = refl

module _ (p : ℕ → ℕ → Bool) (map n : ℕ) where
  pub pairs-none : Walked (pairwise p) map n 0 0
  pairs-none = record { from = omega arith; same = refl }

  pub pairs-more : (i : ℕ) {b : Bool} → i < n → b ≡ cond (used map i) (all (p i) (used_behind map n (i + 1))) true → not b ≡ false
      → Walked (pairwise p) map n 0 i → Walked (pairwise p) map n 0 (i + 1)
  unfolding asked
  pairs-more i h e t r = walked_more (pairwise p) (λ x xs. all (p x) xs) (no-pair p) (first-pair p) map n 0 i h e t r

  pub pairs-stop : (i : ℕ) {b : Bool} → i < n → b ≡ cond (used map i) (all (p i) (used_behind map n (i + 1))) true → not b ≡ true
      → Walked (pairwise p) map n 0 i → false ≡ pairwise p (used_from map 0 n)
  unfolding asked
  pairs-stop i h e t r = walked-stops (pairwise p) (λ x xs. all (p x) xs) (no-pair p) (first-pair p) map n 0 i h e t r ∙ ap (pairwise p) (from_first map n)

  pub pairs-all : (i : ℕ) → n ≤ i → Walked (pairwise p) map n 0 i → true ≡ pairwise p (used_from map 0 n)
  pairs-all i h r = walked_all (pairwise p) (λ x xs. all (p x) xs) (no-pair p) (first-pair p) map n 0 i h r ∙ ap (pairwise p) (from_first map n)

-- ---- at one slot

-- a free slot is not asked
pub free-passes : (c : Bool) (map i : ℕ) {u : Bool} → u ≡ used map i → not u ≡ true → true ≡ cond (used map i) c true
free-passes c map i {u} e t = rw (sym e ∙ not-true u t)

pub used-asked : (map i : ℕ) {u b c : Bool} → u ≡ used map i → not u ≡ false → b ≡ c → b ≡ cond (used map i) c true
used-asked map i {u} e t f = rw (sym e ∙ not-false u t) f
