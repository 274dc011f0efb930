-- What the check of a file says, where its case is known. Assumes nothing.
use Prim.Native.Nat.{ℕ}
use mathlib.Core.Path.{◌≡◌}
use mathlib.Core.List.{List, [], ◌∷◌}
use mathlib.Core.Bool.{Bool, true, false}
use Rattle.format.specs.Answers.{checked_as}
use Rattle.format.specs.declared.Checked.{Checked}
use Rattle.std.proofs.Common.{Result, Ok, Err}
use Rattle.format.specs.declared.Refusal.{Refusal}
use Rattle.page.specs.Filled.{Filled}
use Rattle.page.proofs.Filling.{filled-then}
use Rattle.phrase.specs.Phrases.{line_text}
use Rattle.explain.specs.Said.{explanation, told}
use Rattle.verdict.specs.Verdicts.{accepted_text, refusal_text, check_text, status_of}

module _ (several : Bool) (file : List ℕ) (x : Refusal) {p₀ p₁ : List ℕ} {at i : ℕ} where
  pub refused-line : {p₂ : List ℕ} {j : ℕ} → several ≡ true → Filled p₀ at (told file x) i p₁ → Filled p₁ i (10 ∷ []) j p₂ → Filled p₀ at (refusal_text several file x) j p₂
  unfolding refusal_text line_text
  refused-line h a b = rw h (filled-then a b)

  pub refused-whole : several ≡ false → Filled p₀ at (explanation file x) i p₁ → Filled p₀ at (refusal_text several file x) i p₁
  unfolding refusal_text
  refused-whole h a = rw h a

module _ {x : Result Checked Refusal} where
  module _ (several : Bool) (file : List ℕ) {p₀ p₁ : List ℕ} {at i : ℕ} where
    pub said-accepted : (c : Checked) → x ≡ Ok c → Filled p₀ at (accepted_text c.version c.channels c.days) i p₁ → Filled p₀ at (check_text several file (checked_as x)) i p₁
    said-accepted c h w = rw h w

    pub said-refused : (y : Refusal) → x ≡ Err y → Filled p₀ at (refusal_text several file y) i p₁ → Filled p₀ at (check_text several file (checked_as x)) i p₁
    said-refused y h w = rw h w

  pub status-accepted : (c : Checked) → x ≡ Ok c → 0 ≡ status_of (checked_as x)
  status-accepted c h = rw h

  pub status-refused : (y : Refusal) → x ≡ Err y → 1 ≡ status_of (checked_as x)
  status-refused y h = rw h
