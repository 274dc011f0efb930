-- What the outputs weigh, one after the other. Assumes nothing.
use Prim.Native.Nat.{ℕ, ◌+◌, ◌-◌, ◌*◌, ◌≤◌, ◌<◌}
use mathlib.Core.Path.{◌≡◌, sym, ◌∙◌}
use mathlib.Core.Bool.{Bool, true, false}
use mathlib.Core.List.{List}
use native.Mathlib.Numerals.{add-one}
use native.Mathlib.Omega.{arith}
use lib.ListN.{length, get_or, take, drop, set, length-set, length-map}
use lib.Seq.{sets}
use mir.Val.{Fits}
use mir.Syntax.{w64}
use Rattle.ground.specs.Lists.{same, sum}
use Rattle.ground.proofs.Spans.{part_cut}
use Rattle.entries.specs.Keys.{capitals}
use Rattle.tenants.specs.Outputs.{Output, output, outputs_given}
use Rattle.outputs.proofs.Walks.{given_from, given-here, given-none, given-long}
use Rattle.shares.specs.Shares.{one, count}
use Rattle.shares.proofs.Counts.{one-most}
use Rattle.shares.proofs.Loops.{sets-all}
use Rattle.channel_shares.specs.OnChannel.{has_key, weight_of, weights_of}

-- ---- one output

module _ (channel key : List ℕ) (share : ℕ) {b : Bool} (e : b ≡ same (capitals key) channel) where
  pub weighs-on : b ≡ true → share ≡ weight_of (has_key channel) (output key share)
  unfolding weight_of has_key
  weighs-on t = rw (← e, t)

  pub counts-on : b ≡ true → 1 ≡ one (has_key channel (output key share))
  unfolding has_key
  counts-on t = rw (← e, t)

  pub weighs-off : b ≡ false → 0 ≡ weight_of (has_key channel) (output key share)
  unfolding weight_of has_key
  weighs-off t = rw (← e, t)

  pub counts-off : b ≡ false → 0 ≡ one (has_key channel (output key share))
  unfolding has_key
  counts-off t = rw (← e, t)

-- ---- all of them

-- before output i: so many are on the channel, they weigh so much, and the weights from there on are left to be put
pub record Weighing (channel keys shares weights : List ℕ) (outputs total i : ℕ) : Type 0 where
  pub within : i ≤ 128
  pub as_long : length weights ≡ 128
  pub few : outputs ≤ i
  pub light : total ≤ 65535 * i
  pub counted : outputs + count (has_key channel) (given_from keys shares i) ≡ count (has_key channel) (outputs_given 128 keys shares)
  pub summed : total + sum (weights_of (has_key channel) (given_from keys shares i)) ≡ sum (weights_of (has_key channel) (outputs_given 128 keys shares))
  pub left : sets weights i (weights_of (has_key channel) (given_from keys shares i)) ≡ weights_of (has_key channel) (outputs_given 128 keys shares)

module _ (channel keys shares : List ℕ) {weights : List ℕ} where
  pub weighing-none : length weights ≡ 128 → Weighing channel keys shares weights 0 0 0
  weighing-none h =
      record {
        within = omega arith;
        as_long = h;
        few = omega arith;
        light = omega arith;
        counted = omega arith;
        summed = omega arith;
        left =
            sets-all weights (weights_of (has_key channel) (outputs_given 128 keys shares))
            (length-map (outputs_given 128 keys shares) (weight_of (has_key channel)) ∙ given-long 128 keys shares ∙ sym h);
      }

  module _ {outputs total i : ℕ} (r : Weighing channel keys shares weights outputs total i) where
    -- no share has more than 16 bits
    pub weighing-light : i < 128 → {w : ℕ} → w ≤ 65535 → Fits w64 (total + w)
    weighing-light h l = omega (arith, r.light)

    -- the next output
    module _ (h : i < 128) {x k w : ℕ} (ex : x ≡ get_or shares i 0) (ek : k ≡ one (has_key channel (output (take (12 * i + 12 - 12 * i) (drop (12 * i) keys)) x)))
        (ew : w ≡ weight_of (has_key channel) (output (take (12 * i + 12 - 12 * i) (drop (12 * i) keys)) x)) (l : w ≤ 65535) where
      abbrev here : Output
      here = output (take 12 (drop (12 * i) keys)) (get_or shares i 0)

      counts-here : k ≡ one (has_key channel here)
      counts-here = rw (part_cut (12 * i) 12 (drop (12 * i) keys), ex) at ek

      weighs-here : w ≡ weight_of (has_key channel) here
      weighs-here = rw (part_cut (12 * i) 12 (drop (12 * i) keys), ex) at ew

      pub weighing-more : Weighing channel keys shares (set weights i w) (outputs + k) (total + w) (i + 1)
      unfolding count
      weighing-more =
          record {
            within = omega arith;
            as_long = length-set weights i w ∙ r.as_long;
            few = omega (arith, r.few, counts-here, one-most (has_key channel here));
            light = omega (arith, r.light);
            counted = omega (arith, counts-here, rw (given-here keys shares i h) at r.counted);
            summed = omega (arith, weighs-here, rw (given-here keys shares i h) at r.summed);
            left = rw (weighs-here, add-one i) (rw (given-here keys shares i h, add-one i) at r.left);
          }

      pub weighing-few : Fits w64 (outputs + k)
      weighing-few = omega (arith, r.few, counts-here, one-most (has_key channel here))

    module _ (h : 128 ≤ i) where
      pub weighed-outputs : outputs ≡ count (has_key channel) (outputs_given 128 keys shares)
      unfolding count
      weighed-outputs = omega (arith, rw (given-none keys shares i h) at r.counted)

      pub weighed-shares : total ≡ sum (weights_of (has_key channel) (outputs_given 128 keys shares))
      weighed-shares = omega (arith, rw (given-none keys shares i h) at r.summed)

      pub weighed-all : weights ≡ weights_of (has_key channel) (outputs_given 128 keys shares)
      weighed-all = rw (given-none keys shares i h) at r.left
