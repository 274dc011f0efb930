-- What a sound day gives: one value and one mark for each of its n intervals. Assumes nothing.
use Prim.Native.Nat.{ℕ, zero, suc, ◌+◌, ◌-◌, ◌≤◌}
use mathlib.Core.Path.{◌≡◌, refl}
use mathlib.Core.List.{List, [], ◌∷◌}
use mathlib.Core.Bool.{Bool, true, false, cond, ◌&&◌}
use native.Mathlib.Nat.{zero-add}
use native.Mathlib.Omega.{arith}
use lib.ListN.{length, take, drop, replicate, length-map, length-take, length-drop, length-replicate, length-append}
use lib.Dec.{leb, eqb}
use borrow.Author.Tests.{leb-true, eqb-true}
use Rattle.ground.specs.Lists.{all}
use Rattle.ground.proofs.Tests.{and-true}
use Rattle.format.specs.Records.{values_in, millionths, first_in, last_in}
use Rattle.format.specs.Order.{is_varied}
use Rattle.format.specs.Day.{Row, BlockRows, cover_of, each_of, values_of}
use Rattle.passing.specs.Sound.{covers_from, is_sound}

-- what a cover says of its first 400
pub record Covered (k n : ℕ) (x : Row) (xs : List Row) : Type 0 where
  pub first : first_in x.cells ≡ k + 1
  pub order : first_in x.cells ≤ last_in x.cells
  pub within : last_in x.cells ≤ n
  pub left : covers_from (last_in x.cells) n xs ≡ true

pub cover-first : (k n : ℕ) (x : Row) (xs : List Row) → covers_from k n (x ∷ xs) ≡ true → Covered k n x xs
unfolding covers_from
cover-first k n x xs e =
    let f = first_in x.cells in
    let l = last_in x.cells in
    let a = and-true (eqb f (k + 1) && (leb f l && leb l n)) _ e in
    let b = and-true (eqb f (k + 1)) _ a.0 in
    let d = and-true (leb f l) _ b.1 in
    record { first = eqb-true _ _ b.0; order = leb-true _ _ d.0; within = leb-true _ _ d.1; left = a.1 }

pub cover-length : {X : Type 0} (f : Row → X) (k n : ℕ) (xs : List Row) → covers_from k n xs ≡ true → k + length (cover_of f xs) ≡ n
unfolding covers_from cover_of
cover-length f k n [] e = let z : k ≡ n = eqb-true _ _ e in omega arith
cover-length f k n (x ∷ xs) e =
    let a = cover-first k n x xs e in
    let m = last_in x.cells + 1 - first_in x.cells in
    let i = cover-length f (last_in x.cells) n xs a.left in
    omega (arith, length-append (replicate m (f x)) (cover_of f xs), length-replicate m (f x), a.first, a.order)

module _ (d : BlockRows) (s : is_sound d ≡ true) where
  pub sound-fields : length d.top.cells ≡ d.n + 7
  unfolding is_sound
  sound-fields = eqb-true _ _ (and-true (eqb (length d.top.cells) (d.n + 7)) _ s).0

  pub sound-cover : is_varied d.n d.top.cells ≡ true → covers_from 0 d.n d.runs ≡ true
  unfolding is_sound
  sound-cover v = rw v at (and-true (eqb (length d.top.cells) (d.n + 7)) _ s).1

  pub sound-each : {X : Type 0} (f : ℕ → Row → ℕ → X) → length (each_of f d) ≡ d.n
  unfolding each_of
  sound-each {X} f = by (is_varied d.n d.top.cells) refl
    where
      by : (b : Bool) → is_varied d.n d.top.cells ≡ b
          → length (cond (is_varied d.n d.top.cells) (cover_of (λ (x : Row). f 400 x 3) d.runs) (replicate d.n (f 300 d.top (d.n + 2)))) ≡ d.n
      by true v = rw v (rw zero-add at (cover-length (λ (x : Row). f 400 x 3) 0 d.n d.runs (sound-cover v)))
      by false v = rw v (length-replicate d.n (f 300 d.top (d.n + 2)))

  pub sound-values : length (values_of d) ≡ d.n
  unfolding values_of values_in
  sound-values =
      omega (arith, length-map (take d.n (drop 2 d.top.cells)) millionths, length-take d.n (drop 2 d.top.cells), length-drop 2 d.top.cells, sound-fields)

pub all_drop : {X : Type 0} (p : X → Bool) (k : ℕ) (l : List X) (x : X) (xs : List X) → all p l ≡ true → drop k l ≡ x ∷ xs → p x ≡ true
all_drop p zero [] x xs e h = let z : ◌≡◌ {A = ℕ} 0 1 = cc in absurd (omega arith)
all_drop p (suc k) [] x xs e h = let z : ◌≡◌ {A = ℕ} 0 1 = cc in absurd (omega arith)
all_drop p zero (y ∷ l) x xs e h = let z : y ≡ x = cc in rw z at (and-true (p y) _ e).0
all_drop p (suc k) (y ∷ l) x xs e h = all_drop p k l x xs (and-true (p y) _ e).1 h
