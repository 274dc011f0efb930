-- The values of a day, one after the other: what a turn of each loop goes by. Assumes nothing.
use Rattle.std.proofs.Common.{Some, None}
use Prim.Native.Nat.{ℕ, ◌+◌, ◌-◌, ◌*◌, ◌%◌, ◌^◌, ◌≤◌, ◌<◌}
use mathlib.Core.Path.{◌≡◌, refl, sym, ap, ◌∙◌}
use mathlib.Core.Bool.{true, false}
use mathlib.Core.Logic.{◌≢◌}
use mathlib.Core.List.{List, [], ◌∷◌, ◌++◌}
use native.Mathlib.Nat.{one-le-pow}
use native.Mathlib.Omega.{arith}
use lib.ListN.{length, drop, get_or, length-append, drop_of_length-le}
use borrow.Author.Tests.{eq-eqb, ne_eqb, lt-ltb, le-ltb}
use Rattle.ground.specs.Lists.{all}
use Rattle.ground.specs.Room.{Put}
use Rattle.ground.proofs.Tests.{and-false}
use Rattle.ground.proofs.Lists.{rest}
use Rattle.ground.proofs.Room.{put_then, put-kept, Left, left_step, left_end, left-kept}
use Rattle.format.specs.Block.{small_value, fit_value, value_text, comma, values_text}
use Rattle.format.proofs.ValueText.{value-most}
use Rattle.value_texts.specs.Measure.{measure_of}

-- ---- the text of what is left

values-none : values_text [] ≡ []
unfolding values_text
values-none = refl

values-at : (vs : List ℕ) (i : ℕ) → i < length vs → values_text (drop i vs) ≡ value_text (get_or vs i 0) ++ comma ++ values_text (drop (i + 1) vs)
unfolding values_text
values-at vs i h = ap values_text (rest vs i h)

values-end : (vs : List ℕ) (i : ℕ) → length vs ≤ i → values_text (drop i vs) ≡ []
values-end vs i h = ap values_text (drop_of_length-le vs h) ∙ values-none

length_at : (vs : List ℕ) (i : ℕ) → i < length vs → length (values_text (drop i vs)) ≡ length (value_text (get_or vs i 0)) + 1 + length (values_text (drop (i + 1) vs))
length_at vs i h = ap length (values-at vs i h) ∙ simp length-append (omega arith)

-- ---- measuring: i values are fit and have that many bytes

pub record Counted (d : ℕ) (vs : List ℕ) (bytes i : ℕ) : Type 0 where
  pub within : i ≤ length vs
  pub few : bytes ≤ 15 * i
  pub fits : all (fit_value d) (drop i vs) ≡ all (fit_value d) vs
  pub sum : bytes + length (values_text (drop i vs)) ≡ length (values_text vs)

-- the last of d decimals counts some millionths
pub some-part : (d : ℕ) {p : ℕ} → p ≡ 10 ^ (6 - d) → 0 < p
some-part d e = omega (arith, one-le-pow (6 - d) 10 (omega arith))

module _ (d : ℕ) (vs : List ℕ) where
  pub counted_none : Counted d vs 0 0
  counted_none = record { within = omega arith; few = omega arith; fits = refl; sum = omega arith }

  module _ (bytes i : ℕ) (r : Counted d vs bytes i) where
    one-unfit : i < length vs → fit_value d (get_or vs i 0) ≡ false → None ≡ measure_of d vs
    unfolding measure_of
    one-unfit h g =
        let e : all (fit_value d) vs ≡ false = sym (rw (rest vs i h, g) at r.fits) in
        rw e

    pub counted-large : i < length vs → 10000000000000 ≤ get_or vs i 0 → None ≡ measure_of d vs
    unfolding fit_value small_value
    counted-large h g = one-unfit h (rw (le-ltb (get_or vs i 0) (10 ^ 13) g))

    module _ {p : ℕ} (h : i < length vs) (g : get_or vs i 0 < 10000000000000) (e : p ≡ 10 ^ (6 - d)) where
      pub counted-broken : get_or vs i 0 % p ≢ 0 → None ≡ measure_of d vs
      unfolding fit_value
      counted-broken n = one-unfit h (rw (← e, ne_eqb (get_or vs i 0 % p) 0 n, and-false))

      pub counted-more : {w : ℕ} → get_or vs i 0 % p ≡ 0 → w ≡ length (value_text (get_or vs i 0)) → Counted d vs (bytes + (w + 1)) (i + 1)
      unfolding fit_value small_value
      counted-more z q =
          let f : fit_value d (get_or vs i 0) ≡ true = rw (lt-ltb (get_or vs i 0) (10 ^ 13) g, ← e, eq-eqb (get_or vs i 0 % p) 0 z) in
          record {
            within = omega arith;
            few = omega (arith, r.few, value-most (get_or vs i 0) g);
            fits = rw (rest vs i h, f) at r.fits;
            sum = omega (arith, r.sum, length_at vs i h);
          }

    pub counted-all : length vs ≤ i → Some bytes ≡ measure_of d vs
    unfolding measure_of
    counted-all h =
        let e : all (fit_value d) vs ≡ true = sym (rw (drop_of_length-le vs h) at r.fits) in
        rw e (ap Some (omega (arith, r.sum, ap length (values-end vs i h))))

-- ---- writing: what is left behind the first i values

module _ (vs : List ℕ) (i : ℕ) {l₀ l : List ℕ} {at p : ℕ} (h : i < length vs) (r : Left l₀ at (values_text vs) l p (values_text (drop i vs))) where
  pub value_room : at + length (values_text vs) ≤ length l₀ → p + length (value_text (get_or vs i 0)) ≤ length l
  value_room g = omega (arith, r.ends, left-kept r, length_at vs i h)

  module _ {m : List ℕ} {e : ℕ} (w : Put l p (value_text (get_or vs i 0)) e m) where
    pub comma-room : at + length (values_text vs) ≤ length l₀ → e < length m
    comma-room g = omega (arith, r.ends, left-kept r, length_at vs i h, w.behind, put-kept w)

    pub values-step : {n : List ℕ} {q : ℕ} → Put m e (44 ∷ []) q n → Left l₀ at (values_text vs) n q (values_text (drop (i + 1) vs))
    values-step x = left_step (value_text (get_or vs i 0) ++ comma) (values_text (drop (i + 1) vs)) r (values-at vs i h) (put_then w x)

pub values-done : (vs : List ℕ) (i : ℕ) {l₀ l : List ℕ} {at p : ℕ} → length vs ≤ i → Left l₀ at (values_text vs) l p (values_text (drop i vs)) → Put l₀ at (values_text vs) p l
values-done vs i h r = left_end r (values-end vs i h)
