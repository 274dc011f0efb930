-- 02, 12: "each output on that channel gets total times share over the channel's sum of shares, rounded down, with what remains given one each to the largest
-- remainders, lower output first when equal. The parts add up to the day's total and outputs of other channels get 0." What the theorems say of a splitting.
use Rattle.std.specs.Prelude.{ℕ, ◌+◌, ◌-◌, ◌*◌, ◌/◌, ◌≤◌, ◌<◌, ◌≡◌, Bool, true, false, List, [], map, get_or, take, drop, eqb}
use Rattle.ground.specs.Lists.{sum}
use Rattle.format.specs.Answers.{refused}
use Rattle.entries.specs.Left.{Left, left}
use Rattle.tenants.specs.Outputs.{Output, output}
use Rattle.shares.specs.Shares.{count, remainders}
use Rattle.channel_shares.specs.OnChannel.{weights_of}

-- ---- what was split

abbrev pub output_at : List Output → ℕ → Output
output_at os i = get_or os i (output [] 0)

-- an output's exact share of a total, rounded down
abbrev pub floor_at : ℕ → List ℕ → ℕ → ℕ
floor_at t ws i = t * get_or ws i 0 / sum ws

-- what the rounding took from it
abbrev pub rest_at : ℕ → List ℕ → ℕ → ℕ
rest_at t ws i = get_or (remainders t ws) i 0

-- what it got of what remained
abbrev pub one_at : ℕ → List ℕ → List ℕ → ℕ → ℕ
one_at t ws qs i = get_or qs i 0 - floor_at t ws i

-- ps became qs: t was split over those of the 128 outputs os that are on the channel
pub record Shared (t : ℕ) (on : Output → Bool) (os : List Output) (ps qs : List ℕ) : Type 0 where
  pub adds-up : sum (take 128 qs) ≡ t
  pub others : (i : ℕ) → i < 128 → on (output_at os i) ≡ false → get_or qs i 0 ≡ 0
  pub least : (i : ℕ) → i < 128 → on (output_at os i) ≡ true → t * (output_at os i).share / sum (weights_of on os) ≤ get_or qs i 0
  pub most : (i : ℕ) → i < 128 → on (output_at os i) ≡ true → get_or qs i 0 ≤ t * (output_at os i).share / sum (weights_of on os) + 1
  pub larger-first : (i j : ℕ) → i < 128 → j < 128 → rest_at t (weights_of on os) j < rest_at t (weights_of on os) i
      → one_at t (weights_of on os) qs j ≤ one_at t (weights_of on os) qs i
  pub lower-first : (i j : ℕ) → i < j → j < 128 → rest_at t (weights_of on os) i ≡ rest_at t (weights_of on os) j
      → one_at t (weights_of on os) qs j ≤ one_at t (weights_of on os) qs i
  pub behind : drop 128 qs ≡ drop 128 ps

-- a refusal has one of these numbers, and leaves the parts
pub record Refuses (numbers : ℕ → Bool) (ps : List ℕ) (l : Left) : Type 0 where
  pub number : {x p k i : ℕ} {qs : List ℕ} → l ≡ left (refused x p k i) qs → numbers x ≡ true
  pub keeps : {x p k i : ℕ} {qs : List ℕ} → l ≡ left (refused x p k i) qs → qs ≡ ps

-- ---- in another order

-- the same weights, listed in another order: whatever is reckoned of each adds up to the same
abbrev pub Rearranged : List ℕ → List ℕ → Type 0
Rearranged ws vs = (f : ℕ → ℕ) → sum (map f ws) ≡ sum (map f vs)

-- how many lower outputs have the same remainder
abbrev pub lower_alike : ℕ → List ℕ → ℕ → ℕ
lower_alike t ws i = count (eqb (rest_at t ws i)) (take i (remainders t ws))
