-- Lines of answers, from what the calls answered. Assumes nothing.
use Prim.Native.Nat.{ℕ}
use mathlib.Core.Path.{◌≡◌, refl, ap, ◌∙◌}
use mathlib.Core.Bool.{Bool}
use mathlib.Core.List.{List, [], ◌∷◌}
use Rattle.std.proofs.Common.{Result, Ok, Err}
use lib.ListN.{length}
use Rattle.format.specs.Answers.{Answer, day_read_as, written_as}
use Rattle.format.specs.Day.{Five, Outcome, outcome}
use Rattle.format.specs.Block.{Given, write_of, room_of}
use Rattle.format.specs.declared.DayRead.{DayRead}
use Rattle.format.specs.declared.Refusal.{Refusal}
use Rattle.format.specs.declared.Written.{Written}
use Rattle.page.specs.Filled.{Filled}
use Rattle.answer_lines.specs.Lines.{line_of, interval_in, intervals_read, day_line}
use Rattle.page.proofs.Filling.{filled-then, filled-as}
use Rattle.calls.specs.Kept.{kept, kept_all, ending}
use Rattle.calls.specs.Lines.{answer_line, intervals_in, day_text, bytes_in, block_text}

intervals-same : (x : Result DayRead Refusal) → intervals_read x ≡ intervals_in (day_read_as x)
intervals-same (Ok d) = refl
intervals-same (Err y) = refl

module _ {p₀ p₁ p₂ : List ℕ} {at i j : ℕ} where
  pub line-put : (a b : Answer) → a ≡ b → Filled p₀ at (line_of a) i p₁ → Filled p₁ i (10 ∷ []) j p₂ → Filled p₀ at (answer_line b) j p₂
  unfolding answer_line
  line-put a b e p q = filled-as (filled-then p q) (ap answer_line e)

  pub day-put : (x : Result DayRead Refusal) (vs : List ℕ) (ms : Five) (n : ℕ) (k : Bool) → n ≡ intervals_read x → k ≡ kept_all n vs ms
      → Filled p₀ at (day_line x (interval_in vs ms.flags ms.methods ms.reasons ms.starts ms.lengths)) i p₁ → Filled p₁ i (ending k) j p₂
      → Filled p₀ at (day_text (outcome (day_read_as x) vs ms)) j p₂
  unfolding day_text
  day-put x vs ms n k e f p q =
      rw (← intervals-same x) (filled-then p (filled-as q (ap ending (f ∙ ap (λ (z : ℕ). kept_all z vs ms) e))))

  pub block-put : (g : Given) (room left : List ℕ) (x : Result Written Refusal) (n : ℕ) (k : Bool) → written_as x ≡ write_of g (length room) → left ≡ room_of g room
      → n ≡ bytes_in (written_as x) → k ≡ kept 0 n left → Filled p₀ at (line_of (written_as x)) i p₁ → Filled p₁ i (ending k) j p₂ → Filled p₀ at (block_text g room) j p₂
  unfolding block_text
  block-put g room left x n k e f h w p q = rw (← e, ← f, ← h, ← w) (filled-then p q)

pub day-as : {p₀ p₁ : List ℕ} {at i : ℕ} (o u : Outcome) → o ≡ u → Filled p₀ at (day_text o) i p₁ → Filled p₀ at (day_text u) i p₁
day-as o u e p = filled-as p (ap day_text e)

pub bytes-as : (n : ℕ) (a b : Answer) → a ≡ b → n ≡ bytes_in a → n ≡ bytes_in b
bytes-as n a b e h = h ∙ ap bytes_in e
