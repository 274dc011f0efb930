-- What a function gives of each output, added up by a loop. Assumes nothing.
use Prim.Native.Nat.{ℕ, ◌+◌, ◌-◌, ◌*◌, ◌≤◌, ◌<◌}
use mathlib.Core.Path.{◌≡◌}
use native.Mathlib.Omega.{arith}
use Rattle.ground.specs.Lists.{from, sum}
use Rattle.ground.proofs.From.{from_step, from_end}

-- of n numbers, none above a most, those before i add up to r
pub record Summed (f : ℕ → ℕ) (n most r i : ℕ) : Type 0 where
  pub within : i ≤ n
  pub few : r ≤ most * i
  pub same : r + sum (from f i (n - i)) ≡ sum (from f 0 n)

module _ (f : ℕ → ℕ) (n most : ℕ) where
  pub summed-none : Summed f n most 0 0
  summed-none =
      let z : n - 0 ≡ n = omega arith in
      let s : sum (from f 0 (n - 0)) ≡ sum (from f 0 n) = rw z in
      record { within = omega arith; few = omega arith; same = omega (arith, s) }

  module _ (r i : ℕ) where
    pub summed-more : i < n → {k : ℕ} → k ≡ f i → k ≤ most → Summed f n most r i → Summed f n most (r + k) (i + 1)
    summed-more h {k} e l g =
        let s : sum (from f i (n - i)) ≡ f i + sum (from f (i + 1) (n - (i + 1))) = rw (from_step f i n h) in
        record { within = omega arith; few = omega (arith, g.few); same = omega (arith, g.same) }

    pub summed-all : n ≤ i → Summed f n most r i → r ≡ sum (from f 0 n)
    summed-all h g =
        let s : sum (from f i (n - i)) ≡ 0 = rw (from_end f i n h) in
        omega (arith, g.same)
