-- A room that is copied, then compared with its copy, and the line of a replacing, from what the calls answered. Assumes nothing.
use Prim.Native.Nat.{ℕ, ◌-◌, ◌≤◌}
use mathlib.Core.Path.{◌≡◌, ap, ◌∙◌}
use mathlib.Core.Bool.{Bool}
use mathlib.Core.List.{List}
use Rattle.std.proofs.Common.{Result}
use native.Mathlib.Omega.{arith}
use lib.ListN.{length, take, drop}
use lib.Seq.{take_at}
use Rattle.ground.specs.Lists.{part, same}
use Rattle.ground.specs.Room.{Put}
use Rattle.ground.proofs.Lists.{to_end}
use Rattle.ground.proofs.Room.{sets-front}
use Rattle.format.specs.Day.{over}
use Rattle.page.specs.Filled.{Filled}
use Rattle.page.proofs.Filling.{filled-then}
use Rattle.replacing.specs.Replace.{Left, left, replaced_as}
use Rattle.format.specs.declared.Refusal.{Refusal}
use Rattle.answer_lines.specs.Lines.{line_of}
use Rattle.calls.specs.Kept.{ending}
use Rattle.calls.specs.Lines.{bytes_in}
use Rattle.edit_calls.specs.Lines.{shown_in, left_text}

-- ---- the room and its copy

pub kept_from_lem : (room was : List ℕ) (from : ℕ) {a b : List ℕ} {r : Bool} → a ≡ part room from (length room) → b ≡ part was from (length was) → r ≡ same a b
    → r ≡ same (drop from room) (drop from was)
kept_from_lem room was from {b = b} f g e =
    e
    ∙ ap (λ (z : List ℕ). same z b) (f ∙ to_end from room)
    ∙ ap (λ (z : List ℕ). same (drop from room) z) (g ∙ to_end from was)

module _ {room copy copied : List ℕ} {i : ℕ} (h : length room ≤ length copy) (w : Put copy 0 room i copied) where
  pub copied-over : copied ≡ over room copy
  copied-over = w.room ∙ sets-front copy room h

  -- what the copy starts with
  pub copied-front : {was : List ℕ} → was ≡ part copied 0 (length room) → was ≡ room
  copied-front e =
      e ∙ ap (take (length room - 0)) copied-over ∙ take_at room (drop (length room) copy) (length room - 0) (omega arith)

-- ---- the answer

-- what the call left, by its meaning l
module _ {l : Left} {now : List ℕ} (x : Result ℕ Refusal) (e : left (replaced_as x) now ≡ l) where
  pub left-room : now ≡ l.room
  left-room = ap (λ (z : Left). z.room) e

  pub left-shown : (n : ℕ) {b : ℕ} → b ≡ shown_in (replaced_as x) n → b ≡ shown_in l.answer n
  left-shown n h = h ∙ ap (λ (z : Left). shown_in z.answer n) e

  pub left-put : (room was : List ℕ) {p₀ p₁ p₂ : List ℕ} {at i j n : ℕ} {kept : Bool} → was ≡ room → n ≡ bytes_in (replaced_as x)
      → kept ≡ same (drop n now) (drop n was) → Filled p₀ at (line_of (replaced_as x)) i p₁ → Filled p₁ i (ending kept) j p₂ → Filled p₀ at (left_text l room) j p₂
  unfolding left_text
  left-put room was w h k p q = rw (← e, ← w, ← h, ← k) (filled-then p q)
