-- What is said of a refusal, from its parts. Assumes nothing.
use Prim.Native.Nat.{ℕ, ◌-◌}
use mathlib.Core.Path.{◌≡◌}
use mathlib.Core.List.{List, [], ◌∷◌}
use mathlib.Core.Bool.{Bool, true, false}
use borrow.Author.Tests.{eq-eqb, ne_eqb}
use Rattle.ground.specs.Lists.{part}
use Rattle.format.specs.Cut.{fields, field}
use Rattle.format.specs.Numbers.{is_number, decimals, value_of}
use Rattle.format.specs.Records.{scale, count_of}
use Rattle.format.specs.declared.Refusal.{Refusal}
use Rattle.page.specs.Filled.{Filled}
use Rattle.page.proofs.Filling.{filled-then}
use Rattle.phrase.specs.Phrases.{line_text}
use Rattle.refusals.specs.Places.{headline, counts, whereabouts}
use Rattle.refusals.specs.Hints.{known_units, too_many}
use Rattle.refusals.specs.Excerpts.{excerpt, mark}
use Rattle.records.specs.Records.{record_of, channel_before, n_before, unit_named}
use Rattle.explain.specs.Said.{has_place, marked_text, shown_line, counts_line, is_unit_field, is_value_field, unit_for, decimals_line, unit_line, hint, place_text, explanation_as, told_place, told}
use Rattle.records.specs.declared.Record.{Record}

module _ {p₀ p₁ p₂ p₃ p₄ : List ℕ} {at i j k l : ℕ} where
  pub marked-put : (line : List ℕ) (column : ℕ) → Filled p₀ at (excerpt line column) i p₁ → Filled p₁ i (10 ∷ []) j p₂
      → Filled p₂ j (mark column) k p₃ → Filled p₃ k (10 ∷ []) l p₄ → Filled p₀ at (marked_text line column) l p₄
  unfolding marked_text line_text
  marked-put line column a b c d = filled-then (filled-then a b) (filled-then c d)

  pub place-put : (file : List ℕ) (x y : Refusal) (r : Record) {line : List ℕ} {column : ℕ} → line ≡ part file r.start r.end → column ≡ x.place - r.start
      → Filled p₀ at (whereabouts y r.kind r.count) i p₁ → Filled p₁ i (10 ∷ []) j p₂ → Filled p₂ j (hint file x r) k p₃
      → Filled p₃ k (shown_line line column) l p₄ → Filled p₀ at (place_text file x y r) l p₄
  unfolding place_text line_text
  place-put file x y r el ec a b c d = rw (← el, ← ec) (filled-then (filled-then (filled-then a b) c) d)

module _ {p₀ p₁ p₂ p₃ : List ℕ} {at i j k : ℕ} where
  -- b is what `has_place` answers
  pub explained-put : (file : List ℕ) (x y : Refusal) {r : Record} {b : Bool} → b ≡ has_place x.number → b ≡ true → r ≡ record_of file x.place
      → Filled p₀ at (headline x.number) i p₁ → Filled p₁ i (10 ∷ []) j p₂ → Filled p₂ j (place_text file x y r) k p₃ → Filled p₀ at (explanation_as file x y) k p₃
  unfolding explanation_as line_text
  explained-put file x y e t er a c d = rw (← e, t, ← er) (filled-then (filled-then a c) d)

  pub explained-bare : (file : List ℕ) (x y : Refusal) {b : Bool} → b ≡ has_place x.number → b ≡ false
      → Filled p₀ at (headline x.number) i p₁ → Filled p₁ i (10 ∷ []) j p₂ → Filled p₂ j [] k p₃ → Filled p₀ at (explanation_as file x y) k p₃
  unfolding explanation_as line_text
  explained-bare file x y e t a c d = rw (← e, t) (filled-then (filled-then a c) d)

module _ {p₀ p₁ p₂ : List ℕ} {at i j : ℕ} (file : List ℕ) (x : Refusal) where
  -- b is what `has_place` answers
  pub told-place : {r : Record} {b : Bool} → b ≡ has_place x.number → b ≡ true → r ≡ record_of file x.place
      → Filled p₀ at (44 ∷ 32 ∷ []) i p₁ → Filled p₁ i (whereabouts x r.kind r.count) j p₂ → Filled p₀ at (told_place file x) j p₂
  unfolding told_place
  told-place e t er a c = rw (← e, t, ← er) (filled-then a c)

  pub told-put : Filled p₀ at (headline x.number) i p₁ → Filled p₁ i (told_place file x) j p₂ → Filled p₀ at (told file x) j p₂
  unfolding told
  told-put a c = filled-then a c

pub told-nowhere : {p₀ p₁ : List ℕ} {at i : ℕ} (file : List ℕ) (x : Refusal) {b : Bool} → b ≡ has_place x.number → b ≡ false → Filled p₀ at [] i p₁
    → Filled p₀ at (told_place file x) i p₁
unfolding told_place
told-nowhere file x e t a = rw (← e, t) a

module _ {p₀ p₁ p₂ : List ℕ} {at i j : ℕ} where
  pub counts-put : (file : List ℕ) (place : ℕ) (r : Record) {n m : ℕ} → n ≡ n_before file place → m ≡ count_of r.kind (scale n 0)
      → Filled p₀ at (counts r.count m) i p₁ → Filled p₁ i (10 ∷ []) j p₂ → Filled p₀ at (counts_line file place r) j p₂
  unfolding counts_line line_text
  counts-put file place r en em a b = rw (← en, ← em) (filled-then a b)

  -- b is what `is_value` answers
  pub decimals-put : (unit : ℕ) (s : List ℕ) {b : Bool} → b ≡ is_number (value_of decimals s) → b ≡ true → Filled p₀ at (too_many unit s) i p₁
      → Filled p₁ i (10 ∷ []) j p₂ → Filled p₀ at (decimals_line unit s) j p₂
  unfolding decimals_line line_text
  decimals-put unit s e t a c = rw (← e, t) (filled-then a c)

module _ {p₀ p₁ : List ℕ} {at i : ℕ} where
  pub decimals-none : (unit : ℕ) (s : List ℕ) {b : Bool} → b ≡ is_number (value_of decimals s) → b ≡ false → Filled p₀ at [] i p₁
      → Filled p₀ at (decimals_line unit s) i p₁
  unfolding decimals_line
  decimals-none unit s e t a = rw (← e, t) a

  -- the line of units; b and v are what `is_unit_field` and `is_value_field` answer
  module _ (file : List ℕ) (x : Refusal) (r : Record) {b : Bool} (eb : b ≡ is_unit_field r.kind x.field) where
    pub line-unit : b ≡ true → Filled p₀ at (line_text known_units) i p₁ → Filled p₀ at (unit_line file x r) i p₁
    unfolding unit_line
    line-unit t a = rw (← eb, t) a

    module _ (f : b ≡ false) {v : Bool} (ev : v ≡ is_value_field r.kind x.field r.count) where
      pub line-value : v ≡ true → (u : ℕ) {s w : List ℕ} → u ≡ unit_for file x.place r → s ≡ part file r.start r.end
          → w ≡ field (x.field - 1) (fields s) → Filled p₀ at (decimals_line u w) i p₁ → Filled p₀ at (unit_line file x r) i p₁
      unfolding unit_line
      line-value t u eu es ew a = rw (← eb, f, ← ev, t, ← eu, ← es, ← ew) a

      pub line_other : v ≡ false → Filled p₀ at [] i p₁ → Filled p₀ at (unit_line file x r) i p₁
      unfolding unit_line
      line_other t a = rw (← eb, f, ← ev, t) a

-- the unit of a record's values
module _ (file : List ℕ) (place : ℕ) (r : Record) (u : ℕ) {s : List ℕ} where
  pub unit-own : r.kind ≡ 250 → s ≡ part file r.start r.end → u ≡ unit_named (20 - 1) s → u ≡ unit_for file place r
  unfolding unit_for
  unit-own h e q = rw (eq-eqb _ _ h, ← e) q

  pub unit-channel : (r.kind ≡ 250 → ⊥) → s ≡ channel_before file place → u ≡ unit_named (8 - 1) s → u ≡ unit_for file place r
  unfolding unit_for
  unit-channel h e q = rw (ne_eqb _ _ h, ← e) q
