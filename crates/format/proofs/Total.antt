-- What values come to at most: each is below 10^13, and in a record each has a comma of its own before it. Assumes nothing.
use Rattle.std.proofs.Common.{Option, Some, None}
use Prim.Native.Nat.{ℕ, ◌*◌, ◌^◌, ◌≤◌, ◌<◌}
use mathlib.Core.Path.{◌≡◌, refl}
use mathlib.Core.Bool.{true}
use mathlib.Core.List.{List, [], ◌∷◌, map}
use native.Mathlib.Omega.{arith}
use lib.ListN.{length, take, drop, length-map, length-take, length-drop}
use lib.Dec.{ltb}
use borrow.Author.Tests.{lt-ltb, ltb-true}
use Rattle.ground.specs.Lists.{all, sum}
use Rattle.ground.proofs.Cases.{both}
use Rattle.ground.proofs.Tests.{and-true}
use Rattle.format.specs.Numbers.{number_in, decimals, value_of}
use Rattle.format.specs.Cut.{fields}
use Rattle.format.specs.Records.{millionths, values_in}
use Rattle.format.specs.Block.{small_value}
use Rattle.format.proofs.Numbers.{value-below}
use Rattle.format.proofs.Cut.{count_most}

-- a field that holds no value reads as 0
pub millionths-below : (s : List ℕ) → millionths s < 10 ^ 13
unfolding millionths
millionths-below s = one (value_of decimals s) refl
  where
    one : (x : Option ℕ) → value_of decimals s ≡ x → number_in x < 10 ^ 13
    one (Some v) e = value-below decimals s v e
    one None e = omega arith

pub values-fit : (fs : List (List ℕ)) → all small_value (map millionths fs) ≡ true
unfolding small_value
values-fit [] = refl
values-fit (f ∷ fs) = both (ltb (millionths f) (10 ^ 13)) (all small_value (map millionths fs)) (lt-ltb _ _ (millionths-below f)) (values-fit fs)

-- so many values come to at most so many times 10^13
pub sum-most : (vs : List ℕ) → all small_value vs ≡ true → sum vs ≤ length vs * 10 ^ 13
unfolding small_value
sum-most [] h = omega arith
sum-most (v ∷ vs) h = let w = and-true (ltb v (10 ^ 13)) (all small_value vs) h in omega (arith, ltb-true v (10 ^ 13) w.0, sum-most vs w.1)

-- the values of any record, whatever n is, are no more than its bytes
pub record-most : (n : ℕ) (r : List ℕ) → sum (values_in n (fields r)) ≤ length r * 10 ^ 13
unfolding values_in
record-most n r =
    let fs : List (List ℕ) = take n (drop 2 (fields r)) in
    omega (arith, sum-most (map millionths fs) (values-fit fs), length-map fs millionths, length-take n (drop 2 (fields r)), length-drop 2 (fields r), count_most r)
