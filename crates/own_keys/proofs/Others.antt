-- Two slots' keys, part by part. Assumes nothing.
use Prim.Native.Nat.{ℕ, zero, suc, ◌+◌, ◌-◌, ◌≤◌, ◌<◌}
use mathlib.Core.Path.{◌≡◌, refl, sym, ap, ◌∙◌}
use mathlib.Core.Bool.{Bool, true, false, cond, not, ◌&&◌}
use mathlib.Core.List.{List}
use native.Mathlib.Omega.{arith}
use lib.ListN.{length, get_or}
use borrow.Author.Tests.{ne_eqb}
use Rattle.ground.specs.Lists.{all, same}
use Rattle.ground.proofs.Tests.{and-false}
use Rattle.ground.proofs.Cases.{by, same_or}
use Rattle.ground.proofs.From.{length_from, from-here}
use Rattle.entries.specs.Little.{piece, number_at}
use Rattle.entries.specs.Keys.{same_key}
use Rattle.entries.specs.Entries.{key_at}
use Rattle.store.specs.Used.{used}
use Rattle.store.specs.Ranges.{slot_place}
use Rattle.store.specs.Store.{other_key}
use Rattle.store.specs.declared.Header.{Header}
use Rattle.store.proofs.Walks.{Walked, each_none, each_more}
use Rattle.slots.specs.Fields.{field_of}
use Rattle.own_keys.specs.Dates.{Dated, Passed}

pub pieces-same : {g : Bool} {p q v w : List ℕ} → g ≡ same p q → p ≡ v → q ≡ w → g ≡ same v w
pieces-same e h i = rw (← h, ← i) e

module _ (m : List ℕ) (h : Header) (i j : ℕ) {a b : ℕ} (ea : a ≡ slot_place h i) (eb : b ≡ slot_place h j) {d t : ℕ} (ed : d ≡ number_at m (a + 12) 4) (et : t ≡ number_at m (b + 12) 4) where
  pub other-date : (d ≡ t → ⊥) → true ≡ other_key m h i j
  unfolding other_key same_key key_at
  other-date g = rw (← ea, ← eb, ← ed, ← et, ne_eqb d t g, and-false (same (piece m a 10) (piece m b 10) && same (piece m (a + 10) 2) (piece m (b + 10) 2)))

-- ---- with the dates of the slots at hand

module _ (m : List ℕ) (h : Header) {l : List ℕ} (w : Dated m h l) where
  date-at : (i : ℕ) → i < h.slots → get_or l i 0 ≡ field_of m h h.map 12 i
  date-at i a = ap (λ (z : List ℕ). get_or z i 0) w.are ∙ from-here (field_of m h h.map 12) 0 64 i (omega (arith, w.few))

  pub dates-long : h.slots ≤ length l
  dates-long = omega (arith, w.few, ap length w.are, length_from (field_of m h h.map 12) 0 64)

  date-used : (i : ℕ) → i < h.slots → used h.map i ≡ true → get_or l i 0 ≡ number_at m (slot_place h i + 12) 4
  unfolding field_of
  date-used i a u = date-at i a ∙ rw u

  -- slot i is used, and slot j has another date or is free
  dates-differ : (i j : ℕ) → used h.map i ≡ true → i < h.slots → j < h.slots → (get_or l i 0 ≡ get_or l j 0 → ⊥)
      → true ≡ cond (used h.map j) (other_key m h i j) true
  dates-differ i j u a b d =
      by (used h.map j)
      (λ t. rw t (other-date m h i j refl refl (date-used i a u) (date-used j b t) d))
      (λ t. rw t)

-- ---- over slots of other dates

module _ (l : List ℕ) (i j n : ℕ) where
  pub passed_none : j ≤ n → Passed l i j n j
  passed_none h = record { from = omega arith; within = h; other = λ s a b. absurd (omega arith) }

  pub passed-more : (k : ℕ) → k < n → (get_or l k 0 ≡ get_or l i 0 → ⊥) → Passed l i j n k → Passed l i j n (k + 1)
  passed-more k h d r =
      record {
        from = omega (arith, r.from);
        within = omega arith;
        other = λ s a b. same_or s k (λ q c. d (ap (λ (z : ℕ). get_or l z 0) (sym q) ∙ sym c)) (λ q. r.other s a (omega arith));
      }

module _ (m : List ℕ) (h : Header) {l : List ℕ} (w : Dated m h l) (i : ℕ) (u : used h.map i ≡ true) (a : i < h.slots) (from : ℕ) where
  abbrev Walks : ℕ → Type 0
  Walks j = Walked (all (other_key m h i)) h.map h.slots from j

  -- so far as d slots behind slot j
  along : (j k d : ℕ) → Passed l i j h.slots k → Walks j → j + d ≤ k → Walks (j + d)
  along j k zero p r b = let z : j + 0 ≡ j = omega arith in rw z r
  along j k (suc d) p r b =
      let z : j + suc d ≡ j + d + 1 = omega arith in
      rw z
      (each_more (other_key m h i) h.map h.slots from (j + d) (omega (arith, p.within))
      (dates-differ m h w i (j + d) u a (omega (arith, p.within)) (p.other (j + d) (omega arith) (omega arith)))
      refl (along j k d p r (omega arith)))

  passed-walked : (j k : ℕ) → Passed l i j h.slots k → Walks j → Walks k
  passed-walked j k p r =
      let z : k ≡ j + (k - j) = omega (arith, p.from) in
      rw z (along j k (k - j) p r (omega (arith, p.from)))

  pub passed_first : (k : ℕ) → Passed l i from h.slots k → Walks k
  passed_first k p = passed-walked from k p (each_none (other_key m h i) h.map h.slots from)

  pub passed-next : (j k : ℕ) {b : Bool} → j < h.slots → b ≡ cond (used h.map j) (other_key m h i j) true → not b ≡ false → Passed l i (j + 1) h.slots k → Walks j → Walks k
  passed-next j k g e t p r = passed-walked (j + 1) k p (each_more (other_key m h i) h.map h.slots from j g e t r)
