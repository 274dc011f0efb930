-- The lines of the calls that split a total, from what the calls answered. Assumes nothing.
use Rattle.format.specs.declared.Refusal.{Refusal}
use Rattle.std.proofs.Common.{Result}
use Prim.Native.Nat.{ℕ}
use mathlib.Core.Path.{◌≡◌, ap}
use mathlib.Core.Bool.{Bool}
use mathlib.Core.List.{List, [], ◌∷◌}
use lib.ListN.{get_or}
use Rattle.ground.specs.Digits.{dec}
use Rattle.page.specs.Filled.{Filled}
use Rattle.page.specs.Texts.{texts}
use Rattle.page.proofs.Filling.{filled-then, filled-as}
use Rattle.answer_lines.specs.Lines.{line_of}
use Rattle.calls.specs.Kept.{kept, wide_mark, ending}
use Rattle.entries.specs.Left.{Left, left}
use Rattle.splits.specs.Calls.{split_as}
use Rattle.split_calls.specs.Lines.{set_in, part_text, split_text}

pub part-put : (ps : List ℕ) (n : ℕ) {p₀ p₁ p₂ : List ℕ} {at i j v : ℕ} → v ≡ get_or ps n 0 → Filled p₀ at (32 ∷ []) i p₁ → Filled p₁ i (dec v) j p₂ → Filled p₀ at (part_text ps n) j p₂
unfolding part_text
part-put ps n ev p q = rw (← ev) (filled-then p q)

pub shown-put : (x : Result ℕ Refusal) (ps : List ℕ) {p₀ p₁ p₂ p₃ : List ℕ} {at i j k n : ℕ} {b : Bool} → n ≡ set_in (split_as x) → b ≡ kept wide_mark n ps
    → Filled p₀ at (line_of (split_as x)) i p₁ → Filled p₁ i (texts (part_text ps) n) j p₂ → Filled p₂ j (ending b) k p₃
    → Filled p₀ at (split_text (left (split_as x) ps)) k p₃
unfolding split_text
shown-put x ps en eb p q r = rw (← en, ← eb) (filled-then (filled-then p q) r)

-- the call by its meaning
pub split-as : {l m : Left} {p₀ p₁ : List ℕ} {at i : ℕ} → l ≡ m → Filled p₀ at (split_text l) i p₁ → Filled p₀ at (split_text m) i p₁
split-as e p = filled-as p (ap split_text e)
