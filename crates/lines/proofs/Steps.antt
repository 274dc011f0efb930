-- A field's end looked for by eights, and then one by one. Assumes nothing.
use Prim.Native.Nat.{ℕ, zero, suc, ◌+◌, ◌-◌, ◌/◌, ◌≤◌, ◌<◌}
use mathlib.Core.Path.{◌≡◌, refl, sym, ◌∙◌, ap}
use mathlib.Core.List.{List, [], ◌∷◌}
use mathlib.Core.Bool.{Bool, true, false, cond, false≢true}
use native.Mathlib.Omega.{arith}
use native.Mathlib.Decide.{dec_lt}
use lib.ListN.{length, take, drop, length-drop}
use lib.Seq.{drop-drop, length-take-le}
use lib.Dec.{eqb}
use lib.Count.{count_trailing_zeros}
use borrow.Author.Tests.{eq-eqb, ne_eqb}
use Rattle.ground.specs.Lists.{all, span_of, other}
use Rattle.ground.proofs.Lists.{Sought, sought-none, sought-more, sought-found, sought-all}
use Rattle.ground.proofs.Spans.{span-le, span-block, spanned-all}

-- ---- the first m bytes, and the whole

module _ (p : ℕ → Bool) where
  -- what ends among the first m ends there in the whole
  window : (m : ℕ) (s : List ℕ) → span_of p (take m s) < m → span_of p (take m s) ≡ span_of p s
  unfolding span_of
  window zero s h = absurd (let z : ⊥ = omega arith in z)
  window (suc m) [] h = refl
  window (suc m) (b ∷ s) h = go (p b) h (λ g. window m s g)
    where
      go : (t : Bool) → cond t (suc (span_of p (take m s))) 0 < suc m → (span_of p (take m s) < m → span_of p (take m s) ≡ span_of p s)
          → cond t (suc (span_of p (take m s))) 0 ≡ cond t (suc (span_of p s)) 0
      go true g ih = ap suc (ih (omega arith))
      go false g ih = refl

  -- one byte that does not pass ends the span
  some-span : (s : List ℕ) → all p s ≡ false → span_of p s < length s
  some-span s h = by (dec_lt (span_of p s) (length s))
    where
      by : Dec (span_of p s < length s) → span_of p s < length s
      by (yes k) = k
      by (no k) = absurd (false≢true (sym h ∙ spanned-all p s (omega (arith, span-le p s))))

-- ---- one by one

pub sought-from : (t : List ℕ) (i : ℕ) → i ≤ length t → span_of (other 44) t ≡ i + span_of (other 44) (drop i t) → Sought t 44 i
sought-from t i h e = record { within = h; at = e }

pub ruleset singly = (sought-from, sought-more, sought-found, sought-all, arith)

-- ---- by eights: m is what `comma_marks` answers of the eight bytes from i to e

module _ (t : List ℕ) (i e m : ℕ) (r : Sought t 44 i) (q : e ≡ i + 8) (h : e ≤ length t) where
  cut : take (e - i) (drop i t) ≡ take 8 (drop i t)
  cut = let d : e - i ≡ 8 = omega arith in rw d

  pub eight-long : length (take (e - i) (drop i t)) ≡ 8
  eight-long = rw cut (length-take-le 8 (drop i t) (omega (arith, length-drop i t)))

  pub sought-on : eqb m 0 ≡ all (other 44) (take (e - i) (drop i t)) → m ≡ 0 → Sought t 44 e
  sought-on f z =
      let u : all (other 44) (take 8 (drop i t)) ≡ true = ap (all (other 44)) (sym cut) ∙ sym f ∙ eq-eqb m 0 z in
      let v = span-block (other 44) 8 (drop i t) (omega (arith, length-drop i t)) u in
      rw q record { within = omega arith; at = omega (arith, r.at, rw (drop-drop 8 i t) at v) }

  -- a mark, in byte k: the comma there is the first of all
  module _ (k : ℕ) (f : eqb m 0 ≡ all (other 44) (take (e - i) (drop i t))) (g : count_trailing_zeros 64 m / 8 ≡ span_of (other 44) (take (e - i) (drop i t))) (z : m ≡ 0 → ⊥) where
    u : all (other 44) (take 8 (drop i t)) ≡ false
    u = ap (all (other 44)) (sym cut) ∙ sym f ∙ ne_eqb m 0 z

    pub mark-found : k ≡ count_trailing_zeros 64 m / 8 → i + k ≡ span_of (other 44) t
    mark-found d =
        let a = some-span (other 44) (take 8 (drop i t)) u in
        let l = window (other 44) 8 (drop i t) (omega (arith, ap length cut, eight-long)) in
        omega (arith, r.at, ap (span_of (other 44)) cut)

    pub mark-within : k ≡ count_trailing_zeros 64 m / 8 → i + k ≤ length t
    mark-within d = omega (arith, mark-found d, span-le (other 44) t)

pub ruleset eights = (sought-none, eight-long, sought-on, mark-found, mark-within)
