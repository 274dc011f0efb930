-- The rule in another order of the weights: an output's part goes by its weight and by how many lower outputs have its remainder. Assumes nothing.
use Prim.Native.Nat.{ℕ, zero, suc, ◌+◌, ◌-◌, ◌*◌, ◌/◌, ◌%◌, ◌≤◌, ◌<◌}
use mathlib.Core.Path.{◌≡◌, refl, sym, ap, ◌∙◌}
use mathlib.Core.Bool.{Bool}
use mathlib.Core.List.{List, [], ◌∷◌, ◌++◌, map}
use native.Mathlib.Nat.{mul-zero, zero-mod}
use native.Mathlib.Omega.{arith}
use lib.ListN.{get_or}
use lib.Dec.{ltb}
use Rattle.ground.specs.Lists.{sum}
use Rattle.shares.specs.Shares.{one, count, floors, remainders, leftover, ahead, part_of}
use Rattle.fair.specs.Shared.{rest_at, Rearranged, lower_alike}
use Rattle.fair.proofs.Fair.{rounded, lower-served}

-- ---- what rearranging is

-- two neighbours exchanged: any order can be had so, one exchange after the other
pub exchanged : (xs : List ℕ) (x y : ℕ) (ys : List ℕ) → Rearranged (xs ++ x ∷ y ∷ ys) (xs ++ y ∷ x ∷ ys)
exchanged [] x y ys f = omega arith
exchanged (w ∷ xs) x y ys f = omega (arith, exchanged xs x y ys f)

pub order-twice : (us vs ws : List ℕ) → Rearranged us vs → Rearranged vs ws → Rearranged us ws
order-twice us vs ws a b f = a f ∙ b f

-- ---- the rule does not go by the order

sum-each : (ws : List ℕ) → sum (map (λ (w : ℕ). w) ws) ≡ sum ws
sum-each [] = refl
sum-each (w ∷ ws) = omega (arith, sum-each ws)

count_map : (p : ℕ → Bool) (f : ℕ → ℕ) (ws : List ℕ) → count p (map f ws) ≡ sum (map (λ (w : ℕ). one (p (f w))) ws)
unfolding count
count_map p f [] = refl
count_map p f (w ∷ ws) = omega (arith, count_map p f ws)

-- what the rounding takes goes by the weight alone; there is no output past the last, and nothing is taken from it
rest-is : (t s : ℕ) (ws : List ℕ) (i : ℕ) → get_or (map (λ (w : ℕ). t * w % s) ws) i 0 ≡ t * get_or ws i 0 % s
rest-is t s [] i = sym (rw (mul-zero t, zero-mod s))
rest-is t s (w ∷ ws) zero = refl
rest-is t s (w ∷ ws) (suc i) = rest-is t s ws i

module _ (t : ℕ) (ws vs : List ℕ) (r : Rearranged ws vs) where
  same_sum : sum ws ≡ sum vs
  same_sum = sym (sum-each ws) ∙ r (λ (w : ℕ). w) ∙ sum-each vs

  same-leftover : leftover t ws ≡ leftover t vs
  unfolding leftover floors
  same-leftover = rw (← same_sum) (ap (λ (x : ℕ). t - x) (r (λ (w : ℕ). t * w / sum ws)))

  same_count : (p : ℕ → Bool) → count p (remainders t ws) ≡ count p (remainders t vs)
  unfolding remainders
  same_count p =
      rw (← same_sum)
      (count_map p (λ (w : ℕ). t * w % sum ws) ws ∙ r (λ (w : ℕ). one (p (t * w % sum ws))) ∙ sym (count_map p (λ (w : ℕ). t * w % sum ws) vs))

  module _ (i j : ℕ) (e : get_or ws i 0 ≡ get_or vs j 0) where
    same_rest : rest_at t ws i ≡ rest_at t vs j
    unfolding remainders
    same_rest = rest-is t (sum ws) ws i ∙ rw (← same_sum, e) refl ∙ sym (rest-is t (sum vs) vs j)

    -- the same part, whatever the order, where as many lower outputs have its remainder
    pub any_order : lower_alike t ws i ≡ lower_alike t vs j → part_of t ws i ≡ part_of t vs j
    unfolding part_of ahead
    any_order h =
        let k : ahead (remainders t ws) i ≡ ahead (remainders t vs) j =
        omega (arith, h, same_count (ltb (rest_at t ws i)), ap (λ (x : ℕ). count (ltb x) (remainders t vs)) same_rest) in
        rw (e, same_sum, k, same-leftover)

    -- and else a part that differs by one at most
    pub order-most : part_of t ws i ≤ part_of t vs j + 1
    order-most =
        let z : t * get_or ws i 0 / sum ws ≡ t * get_or vs j 0 / sum vs = rw (e, same_sum) in
        omega (arith, rounded t ws i, rounded t vs j)

-- of two equal shares the lower gets as much, or one more
pub equal-shares : (t : ℕ) (ws : List ℕ) (i j : ℕ) → i < j → get_or ws i 0 ≡ get_or ws j 0 → (part_of t ws j ≤ part_of t ws i) × (part_of t ws i ≤ part_of t ws j + 1)
unfolding part_of remainders
equal-shares t ws i j h e =
    let q : rest_at t ws i ≡ rest_at t ws j = rest-is t (sum ws) ws i ∙ rw e refl ∙ sym (rest-is t (sum ws) ws j) in
    let z : t * get_or ws i 0 / sum ws ≡ t * get_or ws j 0 / sum ws = rw e in
    let a = lower-served t ws i j h q in
    omega (arith, rounded t ws i, rounded t ws j)
