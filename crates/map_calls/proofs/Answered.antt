-- The lines of a map's calls, from what the calls answered. Assumes nothing.
use Rattle.std.proofs.Common.{Result}
use Prim.Native.Nat.{ℕ, ◌+◌, ◌*◌}
use mathlib.Core.Path.{◌≡◌, ap}
use mathlib.Core.Bool.{Bool}
use mathlib.Core.List.{List, [], ◌∷◌}
use lib.ListN.{get_or}
use Rattle.ground.specs.Digits.{dec}
use Rattle.ground.specs.Lists.{part}
use Rattle.format.specs.Answers.{Answer}
use Rattle.format.specs.declared.Refusal.{Refusal}
use Rattle.page.specs.Filled.{Filled}
use Rattle.page.specs.Texts.{texts}
use Rattle.page.proofs.Filling.{filled-then, filled-as}
use Rattle.answer_lines.specs.Lines.{line_of}
use Rattle.calls.specs.Kept.{ending}
use Rattle.entries.specs.Left.{Left, left}
use Rattle.tenants.specs.Calls.{versioned_as, Mapped, mapped}
use Rattle.tenants.specs.Versions.{version_place, count_in}
use Rattle.map_kept.specs.Kept.{kept_after, filled_in, lent_kept}
use Rattle.map_calls.specs.Lines.{left_text, make_text, add_text, key_text, output_text, on_text}

-- ---- an output

pub output-put : (keys shares : List ℕ) (n : ℕ) {p₀ p₁ p₂ p₃ p₄ key : List ℕ} {at i j k l s : ℕ} → key ≡ part keys (12 * n) (12 * n + 12) → s ≡ get_or shares n 0
    → Filled p₀ at (32 ∷ []) i p₁ → Filled p₁ i (key_text key) j p₂ → Filled p₂ j (47 ∷ []) k p₃ → Filled p₃ k (dec s) l p₄ → Filled p₀ at (output_text keys shares n) l p₄
unfolding output_text
output-put keys shares n ek es p q r t = rw (← ek, ← es) (filled-then p (filled-then q (filled-then r t)))

-- ---- a line

module _ {p₀ p₁ p₂ : List ℕ} {at i j : ℕ} where
  pub changed-put : (x : Result ℕ Refusal) (m was : List ℕ) (a e : ℕ) {b : Bool} → b ≡ kept_after (versioned_as x) a e m was → Filled p₀ at (line_of (versioned_as x)) i p₁ → Filled p₁ i (ending b) j p₂
      → Filled p₀ at (left_text (left (versioned_as x) m) a e was) j p₂
  unfolding left_text
  changed-put x m was a e eb p q = rw (← eb) (filled-then p q)

  pub shown-put : (x : Result ℕ Refusal) (keys shares : List ℕ) {p₃ : List ℕ} {n k : ℕ} {b : Bool} → n ≡ filled_in (versioned_as x) → b ≡ lent_kept n keys shares
      → Filled p₀ at (line_of (versioned_as x)) i p₁ → Filled p₁ i (texts (output_text keys shares) n) j p₂ → Filled p₂ j (ending b) k p₃
      → Filled p₀ at (on_text (mapped (versioned_as x) keys shares)) k p₃
  unfolding on_text
  shown-put x keys shares en eb p q r = rw (← en, ← eb) (filled-then (filled-then p q) r)

-- the call by its meaning l; the copy is memory as it was
module _ {p₀ p₁ : List ℕ} {at i : ℕ} where
  pub make-as : {a : Answer} {now was m : List ℕ} {l : Left} → left a now ≡ l → was ≡ m → Filled p₀ at (left_text (left a now) 4 4 was) i p₁ → Filled p₀ at (make_text l m) i p₁
  make-as el ew p = rw (← el, ← ew) p

  pub add-as : {a : Answer} {now was m : List ℕ} {l : Left} → left a now ≡ l → was ≡ m → Filled p₀ at (add_text (left a now) was) i p₁ → Filled p₀ at (add_text l m) i p₁
  add-as el ew p = rw (← el, ← ew) p

  pub added-put : (x : Result ℕ Refusal) (m was : List ℕ) {n a : ℕ} → n ≡ count_in was → a ≡ version_place n → Filled p₀ at (left_text (left (versioned_as x) m) a (a + 1796) was) i p₁
      → Filled p₀ at (add_text (left (versioned_as x) m) was) i p₁
  added-put x m was en ea p = rw (← en, ← ea) p

  pub on-as : {o u : Mapped} → o ≡ u → Filled p₀ at (on_text o) i p₁ → Filled p₀ at (on_text u) i p₁
  on-as e p = filled-as p (ap on_text e)
