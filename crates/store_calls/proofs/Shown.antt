-- The lines of a store's calls, from what the calls answered. Assumes nothing.
use Rattle.std.proofs.Common.{Result, Ok, Err, Option, Some, None}
use Prim.Native.Nat.{ℕ, ◌+◌}
use mathlib.Core.Path.{◌≡◌, ap}
use mathlib.Core.Bool.{Bool}
use mathlib.Core.List.{List, [], ◌∷◌, ◌++◌}
use lib.ListN.{drop}
use Rattle.ground.specs.Lists.{same}
use Rattle.ground.specs.Text.{bytes}
use Rattle.format.specs.Answers.{Answer, accepted, refused_as}
use Rattle.format.specs.declared.Refusal.{Refusal}
use Rattle.page.specs.Filled.{Filled}
use Rattle.page.proofs.Filling.{filled-then, filled-as}
use Rattle.answer_lines.specs.Lines.{line_of}
use Rattle.calls.specs.Kept.{ending}
use Rattle.entries.specs.Left.{Left, left}
use Rattle.store.specs.Calls.{made_as, kept_as, slot_read_as}
use Rattle.store.specs.declared.Slot.{Slot}
use Rattle.kept_bytes.specs.Kept.{kept_from, used_end}
use Rattle.store_calls.specs.Lines.{left_text, make_text, change_text, slot_text}

module _ {p₀ p₁ p₂ : List ℕ} {at i j : ℕ} where
  text-put : (l : Left) (place from : ℕ) (was : List ℕ) {k : Bool} → from ≡ kept_from l.answer place → k ≡ same (drop from l.memory) (drop from was)
      → Filled p₀ at (line_of l.answer) i p₁ → Filled p₁ i (ending k) j p₂ → Filled p₀ at (left_text l place was) j p₂
  unfolding left_text
  text-put l place from was f e p q = rw (← f, ← e) (filled-then p q)

  pub changed-put : (x : Result ℕ Refusal) (now was : List ℕ) {from : ℕ} {k : Bool} → from ≡ kept_from (kept_as x) (used_end now) → k ≡ same (drop from now) (drop from was)
      → Filled p₀ at (line_of (kept_as x)) i p₁ → Filled p₁ i (ending k) j p₂ → Filled p₀ at (change_text (left (kept_as x) now) was) j p₂
  changed-put x now was {from} f e p q = text-put (left (kept_as x) now) (used_end now) from was f e p q

  pub made-put : (x : Result ℕ Refusal) (now was room : List ℕ) {l : Left} {from : ℕ} {k : Bool} → left (made_as x) now ≡ l → was ≡ room → from ≡ kept_from (made_as x) 32 → k ≡ same (drop from now) (drop from was)
      → Filled p₀ at (line_of (made_as x)) i p₁ → Filled p₁ i (ending k) j p₂ → Filled p₀ at (make_text l room) j p₂
  made-put x now was room {from = from} el ew f e p q = rw (← el, ← ew) (text-put (left (made_as x) now) 32 from was f e p q)

  -- a slot, with its line's end
  pub used-slot : {x : Result (Option Slot) Refusal} {s : Slot} → x ≡ Ok (Some s) → Filled p₀ at (line_of (accepted (s.nmi ∷ s.suffix ∷ s.date ∷ s.length ∷ s.unit ∷ s.update ∷ s.start ∷ s.end ∷ []))) i p₁ → Filled p₁ i (10 ∷ []) j p₂
      → Filled p₀ at (slot_text (slot_read_as x)) j p₂
  unfolding slot_text
  used-slot e p q = rw e (filled-then p q)

  pub no_slot : {x : Result (Option Slot) Refusal} {y : Refusal} → x ≡ Err y → Filled p₀ at (line_of (refused_as y)) i p₁ → Filled p₁ i (10 ∷ []) j p₂ → Filled p₀ at (slot_text (slot_read_as x)) j p₂
  unfolding slot_text
  no_slot e p q = rw e (filled-then p q)

pub free-slot : {p₀ p₁ : List ℕ} {at i : ℕ} {x : Result (Option Slot) Refusal} → x ≡ Ok None → Filled p₀ at (bytes "free" ++ 10 ∷ []) i p₁ → Filled p₀ at (slot_text (slot_read_as x)) i p₁
unfolding slot_text
free-slot e p = rw e p

-- the call by its meaning l
pub changed-as : {p₀ p₁ : List ℕ} {at i : ℕ} {a : Answer} {now was m : List ℕ} {l : Left} → left a now ≡ l → was ≡ m → Filled p₀ at (change_text (left a now) was) i p₁ → Filled p₀ at (change_text l m) i p₁
changed-as el ew p = rw (← el, ← ew) p

pub slot-as : {p₀ p₁ : List ℕ} {at i : ℕ} {a b : Answer} → a ≡ b → Filled p₀ at (slot_text a) i p₁ → Filled p₀ at (slot_text b) i p₁
slot-as e p = filled-as p (ap slot_text e)
