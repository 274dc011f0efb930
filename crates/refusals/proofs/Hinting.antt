-- What is said by the table of units, from its parts. Assumes nothing.
use Prim.Native.Nat.{ℕ, ◌+◌, ◌-◌, ◌≤◌, ◌<◌}
use mathlib.Core.Path.{◌≡◌, sym, ap, ◌∙◌}
use mathlib.Core.Bool.{Bool, true, false}
use mathlib.Core.List.{List}
use native.Mathlib.Omega.{arith}
use borrow.Author.Tests.{ltb-true}
use lib.ListN.{length, take, length-drop}
use mir.Syntax.{w8}
use mir.Val.{Fits}
use Rattle.ground.specs.Digits.{dec}
use Rattle.ground.specs.Lists.{span_of, other, part}
use Rattle.ground.specs.Text.{bytes}
use Rattle.format.specs.Numbers.{behind}
use Rattle.format.specs.Units.{units, is_unit, unit_name, decimals_of}
use Rattle.units.proofs.Cells.{known, none}
use Rattle.page.specs.Filled.{Filled}
use Rattle.page.specs.Texts.{texts}
use Rattle.page.proofs.Filling.{filled-then, filled-as}
use Rattle.page.proofs.Listed.{Counted, counted-more, counted-all}
use Rattle.phrase.specs.Phrases.{counted_text}
use Rattle.phrase.proofs.Chained.{filled-four}
use Rattle.refusals.specs.Hints.{listed, at_most, too_many}

-- a name is so many bytes of those that spell it
pub name-put : {p₀ p₁ : List ℕ} {at i : ℕ} (unit n : ℕ) (b : List ℕ) {t : List ℕ} → take n b ≡ unit_name unit → t ≡ part b 0 n → Filled p₀ at t i p₁
    → Filled p₀ at (unit_name unit) i p₁
name-put unit n b e f p = let z : n - 0 ≡ n = omega arith in filled-as p (f ∙ ap (λ (k : ℕ). take k b) z ∙ e)

-- ---- the names one behind the other; b is what `is_unit` answers

module _ (u : ℕ) {b : Bool} (e : b ≡ is_unit u) where
  below : b ≡ true → u < length units
  unfolding is_unit
  below t = ltb-true u (length units) (sym e ∙ t)

  pub unit-fits : b ≡ true → Fits w8 (u + 1)
  unit-fits t = omega (arith, known u e t)

  pub unit-less : b ≡ true → length units - (u + 1) < length units - u
  unit-less t = omega (arith, below t)

module _ (page₀ page : List ℕ) (at p u : ℕ) {b : Bool} (e : b ≡ is_unit u) (r : Counted page₀ at listed (length units) page p u) where
  pub names_more : (m : List ℕ) (q : ℕ) → b ≡ true → Filled page p (listed u) q m → Counted page₀ at listed (length units) m q (u + 1)
  names_more m q t w = counted-more page₀ at listed (length units) page m p q u (below u e t) r w

  pub names-all : b ≡ false → Filled page₀ at (texts listed (length units)) p page
  names-all t = counted-all page₀ at listed (length units) page p u (none u e t) r

-- ---- the decimals of a value

module _ (s : List ℕ) (p : ℕ) (e : p ≡ span_of (other 46) s) where
  pub behind-point : p < length s → length s - p - 1 ≡ length (behind s)
  behind-point h = rw (← e, length-drop) (omega arith)

  pub no-point : length s ≤ p → 0 ≡ length (behind s)
  no-point h = rw (← e, length-drop) (omega arith)

-- ---- what is said of them; d and n are what `units::decimals` and `decimals_in` answer

pub at-most-put : {p₀ p₁ p₂ p₃ p₄ : List ℕ} {at i j k l : ℕ} (unit d : ℕ) → d ≡ decimals_of unit → Filled p₀ at (bytes "a value in ") i p₁
    → Filled p₁ i (unit_name unit) j p₂ → Filled p₂ j (bytes " has at most ") k p₃ → Filled p₃ k (counted_text d (bytes "decimal")) l p₄
    → Filled p₀ at (at_most unit) l p₄
unfolding at_most
at-most-put unit d e w x y z = rw (← e) (filled-four w x y z)

pub too-many-put : {p₀ p₁ p₂ p₃ : List ℕ} {at i j k : ℕ} (unit n : ℕ) (s : List ℕ) → n ≡ length (behind s) → Filled p₀ at (at_most unit) i p₁
    → Filled p₁ i (bytes ", and this one has ") j p₂ → Filled p₂ j (dec n) k p₃ → Filled p₀ at (too_many unit s) k p₃
unfolding too_many
too-many-put unit n s e x y z = rw (← e) (filled-then (filled-then x y) z)
