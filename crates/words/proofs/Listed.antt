-- The walk over a list of texts, from one to the next. Assumes nothing.
use Prim.Native.Nat.{ℕ, suc, ◌+◌, ◌-◌, ◌≤◌, ◌<◌}
use mathlib.Core.Path.{◌≡◌, refl, sym, ap, ◌∙◌}
use mathlib.Core.List.{List}
use native.Mathlib.Nat.{sub-zero}
use native.Mathlib.Omega.{arith}
use lib.ListN.{length, take, drop, length-drop, drop_of_length-le}
use lib.Seq.{drop-drop}
use Rattle.ground.specs.Lists.{span_of, other, part}
use Rattle.ground.proofs.Lists.{to_end}
use Rattle.words.specs.Lists.{first_in, behind, text_at, numbered}

pub first-is : (s t : List ℕ) (n : ℕ) → n ≡ span_of (other 59) s → t ≡ part s 0 n → t ≡ first_in s
unfolding first_in
first-is s t n e h = h ∙ ap (λ (k : ℕ). take k s) (sub-zero n ∙ e)

module _ (s : List ℕ) (at n : ℕ) (e : n ≡ span_of (other 59) (take (length s - at) (drop at s))) where
  span : n ≡ span_of (other 59) (drop at s)
  span = e ∙ ap (span_of (other 59)) (to_end at s)

  pub next_more : n < length s - at → drop (at + n + 1) s ≡ behind (drop at s)
  unfolding behind
  next_more h =
      let j : at + n + 1 ≡ at + (span_of (other 59) (drop at s) + 1) = omega (arith, span) in
      ap (λ (k : ℕ). drop k s) j ∙ sym (drop-drop (span_of (other 59) (drop at s) + 1) at s)

  pub next-none : length s - at ≤ n → drop (length s) s ≡ behind (drop at s)
  unfolding behind
  next-none h =
      drop_of_length-le s {i = length s} (omega arith)
      ∙ sym (drop_of_length-le (drop at s) {i = span_of (other 59) (drop at s) + 1} (omega (arith, span, length-drop at s)))

-- the text of number k, from 1, starts at a place
pub record Reached (s : List ℕ) (number at k : ℕ) : Type 0 where
  pub within : at ≤ length s
  pub same : text_at (number - k) (drop at s) ≡ numbered number s

module _ (s : List ℕ) (number : ℕ) where
  pub reached-first : Reached s number 0 1
  reached-first = record { within = omega arith; same = refl }

  pub reached-next : (at next k : ℕ) → k < number → Reached s number at k → drop next s ≡ behind (drop at s) → next ≤ length s → Reached s number next (k + 1)
  unfolding text_at
  reached-next at next k h r e w =
      let j : number - k ≡ suc (number - (k + 1)) = omega arith in
      record { within = w; same = rw e (sym (ap (λ (z : ℕ). text_at z (drop at s)) j) ∙ r.same) }

  pub reached-is : (at k : ℕ) (t : List ℕ) → number ≤ k → Reached s number at k → t ≡ first_in (take (length s - at) (drop at s)) → t ≡ numbered number s
  unfolding text_at
  reached-is at k t h r e =
      let j : number - k ≡ 0 = omega arith in
      e ∙ ap first_in (to_end at s) ∙ sym (ap (λ (z : ℕ). text_at z (drop at s)) j) ∙ r.same
