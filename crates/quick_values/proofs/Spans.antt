-- A loop over the digits that a field begins with. Assumes nothing.
use Prim.Native.Nat.{ℕ, ◌+◌, ◌≤◌, ◌<◌}
use mathlib.Core.Path.{◌≡◌, sym, ◌∙◌}
use mathlib.Core.Bool.{Bool, true, false, not}
use mathlib.Core.List.{List}
use native.Mathlib.Omega.{arith}
use lib.ListN.{length, get_or, drop}
use borrow.Author.Tests.{not-true, not-false}
use Rattle.ground.specs.Lists.{span_of}
use Rattle.ground.specs.Digits.{is_digit}
use Rattle.ground.proofs.Spans.{span-on, span-stop, span-all}

-- the bytes before i are digits
pub record Far (s : List ℕ) (i : ℕ) : Type 0 where
  pub within : i ≤ length s
  pub rest : span_of is_digit s ≡ i + span_of is_digit (drop i s)

pub far_none : (s : List ℕ) → Far s 0
far_none s = record { within = omega arith; rest = omega arith }

module _ (s : List ℕ) (i : ℕ) (r : Far s i) where
  -- d is what `is_digit` answers of the byte at i
  module _ (h : i < length s) {d : Bool} (e : d ≡ is_digit (get_or s i 0)) where
    pub far-on : not d ≡ false → Far s (i + 1)
    far-on t = record { within = omega arith; rest = span-on is_digit s i h (sym e ∙ not-false d t) r.rest }

    pub far-stop : not d ≡ true → i ≡ span_of is_digit s
    far-stop t = span-stop is_digit s i h (sym e ∙ not-true d t) r.rest

  pub far-all : length s ≤ i → i ≡ span_of is_digit s
  far-all h = span-all is_digit s i h r.rest
